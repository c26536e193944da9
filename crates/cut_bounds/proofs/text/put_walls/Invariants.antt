use Rattle.std.proofs.Common.{◌≡◌, ◌++◌, take}
use Rattle.std.specs.List.{flat_map}
use Rattle.cut_bounds.specs.Bounds.{wall_line}
use Rattle.cut_bounds.proofs.text.put_walls.Given as goal

abbrev pub invariant-loop-wall : goal.invariant-loop-wall
invariant-loop-wall l = l.text ≡ l.fn.text ++ flat_map wall_line (take l.wall-index l.walls)
