use Rattle.delay_rows.proofs.lists.told.Given as goal

abbrev pub ghosts-told_by : goal.ghosts-told_by
ghosts-told_by a = record { name = a.blank.name; parts = a.blank.parts }
