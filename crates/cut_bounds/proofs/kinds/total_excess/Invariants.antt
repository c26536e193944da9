use Rattle.std.proofs.Common.{◌≡◌, ◌≤◌, ◌*◌, ◌^◌, sum_by, take}
use Rattle.cut_bounds.specs.Taken.{excess_of}
use Rattle.cut_bounds.proofs.kinds.total_excess.Given as goal

abbrev pub invariant-loop-wall : goal.invariant-loop-wall
invariant-loop-wall l = record {
  total : l.total ≡ sum_by excess_of (take l.wall-index l.walls);
  few : l.total ≤ l.wall-index * 2 ^ 64;
}
