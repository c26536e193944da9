use Rattle.std.proofs.Common.{◌≡◌, [], fold, take}
use Rattle.cut_bounds.specs.Taken.{take_apart, AreMarks}
use Rattle.cut_bounds.proofs.taken.take_walls.Given as goal

abbrev pub invariant-loop-wall : goal.invariant-loop-wall
invariant-loop-wall l = record {
  walls : l.taken.walls.items ≡ fold (take_apart l.shape) [] (take l.wall-index l.walls);
  marks : AreMarks l.shape l.taken.walls.items l.taken.marks.items;
}
