use Rattle.std.proofs.Common.{◌≡◌, ◌++◌, drop}
use Rattle.maze_route.specs.Kept.{cells_waiting}
use Rattle.maze_route.proofs.places.waiting.Given as goal

abbrev pub invariant-loop-slot : goal.invariant-loop-slot
invariant-loop-slot l = l.cells.items ++ cells_waiting (drop l.slot-index l.slots) ≡ cells_waiting l.slots
