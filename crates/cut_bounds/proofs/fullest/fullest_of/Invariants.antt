use Rattle.std.proofs.Common.{◌≡◌, take}
use Rattle.cut_bounds.specs.Fullest.{fullest_of}
use Rattle.cut_bounds.proofs.fullest.fullest_of.Given as goal

abbrev pub invariant-loop-wall : goal.invariant-loop-wall
invariant-loop-wall l = l.fullest.items ≡ fullest_of (take l.wall-index l.walls)
