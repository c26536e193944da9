use Rattle.std.proofs.Common.{◌≡◌, map, take}
use Rattle.maze_route.specs.Positions.{outside}
use Rattle.maze_route.proofs.aim.rests.Given as goal

abbrev pub invariant-loop-position : goal.invariant-loop-position
invariant-loop-position l = l.rests.items ≡ map (outside l.from l.to) (take l.position-index l.positions)
