use Rattle.maze_route.specs.Runs.{IsRun}
use Rattle.maze_route.proofs.runs.price_each.Given as goal

abbrev pub invariant-loop-place : goal.invariant-loop-place
invariant-loop-place g l = IsRun (g.C.Costs.price l.costs) l.fn.from l.fn.first l.place l.fn.prices.items l.prices.items
