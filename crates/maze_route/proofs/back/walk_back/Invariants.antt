use Rattle.maze_route.specs.Labels.{label_at}
use Rattle.maze_route.specs.Steps.{IsSpot}
use Rattle.maze_route.proofs.WalkLemmas.{IsOnWay}
use Rattle.maze_route.proofs.back.walk_back.Given as goal

abbrev pub invariant-loop-left : goal.invariant-loop-left
invariant-loop-left g l = record {
  spot : IsSpot l.field.pane l.spot;
  way : IsOnWay l.field.pane l.tree (g.C.Costs.price l.costs) (label_at l.labels.costs.items) l.fn.goal.cell l.cells l.spot.local l.left;
}

abbrev pub decreases-loop-left : goal.decreases-loop-left
decreases-loop-left g l = l.left
