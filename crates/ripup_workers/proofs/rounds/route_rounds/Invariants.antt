use Rattle.ripup_workers.proofs.rounds.route_rounds.Given as goal

-- the book's name
abbrev pub ghosts-book_of_rounds : goal.ghosts-book_of_rounds
ghosts-book_of_rounds g a = record { word = a.blank.word; capacity = a.blank.capacity; passes = a.blank.passes }
