use Rattle.std.proofs.Common.{◌<◌}
use Rattle.maze_route.specs.Positions.{AreLowered, AreUnder}
use Rattle.maze_route.proofs.positions.lower.Given as goal

abbrev pub invariant-loop-layer : goal.invariant-loop-layer
invariant-loop-layer g l = record {
  lowered : AreLowered l.fn.numbers l.numbers;
  under : AreUnder l.pane.grid l.pane.window (g.C.Costs.price l.costs) l.way (λ q. q.layer < l.layer) l.numbers;
}
