use Rattle.std.proofs.Common.{◌≡◌, ◌+◌, ◌*◌, ◌≤◌}
use Rattle.gr_base.specs.Grid.{gap}
use Rattle.pattern_route.specs.Lines.{IsOn, leg_cost}
use Rattle.pattern_route.proofs.leg.cost_along.Given as goal

abbrev pub invariant-loop-at : goal.invariant-loop-at
invariant-loop-at g l = record {
  on : IsOn l.shape l.line l.at;
  paid : l.cost + leg_cost l.shape (g.C.Costs.price l.costs) l.line l.at l.to ≡ leg_cost l.shape (g.C.Costs.price l.costs) l.line l.from l.to;
  most : l.cost + 1048576 * gap l.at l.to ≤ 1048576 * gap l.from l.to;
}

abbrev pub decreases-loop-at : goal.decreases-loop-at
decreases-loop-at g l = gap l.at l.to
