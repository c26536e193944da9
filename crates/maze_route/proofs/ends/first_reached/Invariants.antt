use Rattle.std.proofs.Common.{take}
use Rattle.maze_route.specs.Ends.{IsFirstOf}
use Rattle.maze_route.specs.Labels.{label_at}
use Rattle.maze_route.proofs.ends.first_reached.Given as goal

abbrev pub invariant-loop-end : goal.invariant-loop-end
invariant-loop-end l = IsFirstOf (label_at l.labels.costs.items) (take l.end-index l.ends) l.first
