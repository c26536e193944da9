use Rattle.std.proofs.Common.{◌≡◌}
use Rattle.gr_base.specs.Grid.{gap}
use Rattle.pattern_route.specs.Walks.{walk_cost, least_of}
use Rattle.pattern_route.specs.Lines.{walk_at, walks_after, IsAtLine, IsCrossing}
use Rattle.pattern_route.proofs.crossing.least_after.Given as goal

abbrev pub invariant-loop-sweep : goal.invariant-loop-sweep
invariant-loop-sweep g l = record {
  sweep : IsAtLine l.shape (g.C.Costs.price l.costs) l.sweep;
  best : IsCrossing l.shape (g.C.Costs.price l.costs) l.best;
  least :
      least_of (walk_cost l.shape (g.C.Costs.price l.costs)) (walk_at l.shape l.best) (walks_after l.shape l.sweep) ≡
      least_of (walk_cost l.shape (g.C.Costs.price l.costs)) (walk_at l.shape l.fn.found) (walks_after l.shape l.fn.first);
}

abbrev pub decreases-loop-sweep : goal.decreases-loop-sweep
decreases-loop-sweep g l = gap l.sweep.at l.sweep.span.end
