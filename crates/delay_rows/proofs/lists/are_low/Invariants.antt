use Rattle.std.specs.Prelude.{All, take}
use Rattle.ginneken_lists.specs.Pairs.{IsInRange}
use Rattle.delay_rows.proofs.lists.are_low.Given as goal

abbrev pub invariant-loop-at : goal.invariant-loop-at
invariant-loop-at g l = All IsInRange (take l.at l.list)
