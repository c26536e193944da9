use Rattle.book_rows.proofs.crowd.run.Given as goal

-- the book's name
abbrev pub ghosts-play : goal.ghosts-play
ghosts-play g a = record { word = a.blank.word; capacity = a.blank.capacity; passes = a.blank.passes }
