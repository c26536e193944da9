use Rattle.maze_route.specs.Steps.{size_of, rest_of, pane_graph}
use Rattle.maze_route.proofs.SearchLemmas.{IsTurn, weight_of}
use Rattle.maze_route.proofs.search.search.Given as goal

abbrev pub invariant-loop-key : goal.invariant-loop-key
invariant-loop-key g l = IsTurn (pane_graph l.field.pane l.tree (g.C.Costs.price l.costs)) (rest_of l.field.pane l.aim) l.marks (size_of l.field.pane) l.nearest l.front

abbrev pub decreases-loop-key : goal.decreases-loop-key
decreases-loop-key g l = weight_of l.front
