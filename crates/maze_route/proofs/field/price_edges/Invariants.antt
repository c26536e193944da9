use Rattle.std.proofs.Common.{◌*◌}
use Rattle.maze_route.specs.Fields.{ArePricedTo}
use Rattle.maze_route.proofs.field.price_edges.Given as goal

abbrev pub invariant-loop-line : goal.invariant-loop-line
invariant-loop-line g l = ArePricedTo l.fn.pane (g.C.Costs.price l.costs) l.fn.way (l.line * l.fn.pane.shape.columns) l.prices.items
