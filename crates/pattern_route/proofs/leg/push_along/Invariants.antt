use Rattle.std.proofs.Common.{◌≡◌, ◌++◌}
use Rattle.gr_base.specs.Grid.{gap}
use Rattle.pattern_route.specs.Lines.{IsOn, along}
use Rattle.pattern_route.proofs.leg.push_along.Given as goal

abbrev pub invariant-loop-at : goal.invariant-loop-at
invariant-loop-at l = (IsOn l.shape l.line l.at) × (l.cells.items ++ along l.shape l.line l.at l.to ≡ l.fn.cells.items ++ along l.shape l.line l.from l.to)

abbrev pub decreases-loop-at : goal.decreases-loop-at
decreases-loop-at l = gap l.at l.to
