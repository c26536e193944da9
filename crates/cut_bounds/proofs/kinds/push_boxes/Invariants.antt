use Rattle.std.proofs.Common.{◌≡◌, ◌++◌, filter, take}
use Rattle.cut_bounds.specs.BoundsOf.{is_box}
use Rattle.cut_bounds.proofs.kinds.push_boxes.Given as goal

abbrev pub invariant-loop-wall : goal.invariant-loop-wall
invariant-loop-wall l = l.found.items ≡ l.initial.found.items ++ filter is_box (take l.wall-index l.walls)
