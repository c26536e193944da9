use Rattle.book_front.proofs.seat.Front.append.Given as goal

-- the entry that is added
abbrev pub ghosts-append_named : goal.ghosts-append_named
ghosts-append_named a = record { entry = a.entry.now }
