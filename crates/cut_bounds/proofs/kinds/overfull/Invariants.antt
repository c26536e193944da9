use Rattle.std.proofs.Common.{◌≡◌, filter, take}
use Rattle.cut_bounds.specs.Measured.{is_overfull}
use Rattle.cut_bounds.proofs.kinds.overfull.Given as goal

abbrev pub invariant-loop-wall : goal.invariant-loop-wall
invariant-loop-wall l = l.found.items ≡ filter is_overfull (take l.wall-index l.walls)
