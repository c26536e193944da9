use Rattle.std.proofs.Common.{◌≡◌, map, take}
use Rattle.maze_route.specs.Steps.{local_of}
use Rattle.maze_route.proofs.ends.locals.Given as goal

abbrev pub invariant-loop-cell : goal.invariant-loop-cell
invariant-loop-cell l = l.ends.items ≡ map (local_of l.pane) (take l.cell-index l.cells)
