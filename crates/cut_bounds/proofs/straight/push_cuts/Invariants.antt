use Rattle.std.proofs.Common.{◌≡◌, ◌++◌}
use Rattle.cut_bounds.specs.Straight.{first_cuts}
use Rattle.cut_bounds.proofs.straight.push_cuts.Given as goal

abbrev pub invariant-loop-line : goal.invariant-loop-line
invariant-loop-line l = l.walls.items ≡ l.fn.walls.items ++ first_cuts l.design l.axis l.line
