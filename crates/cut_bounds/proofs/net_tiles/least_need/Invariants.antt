use Rattle.std.proofs.Common.{◌≡◌, ◌*◌, ◌≤◌, take}
use Rattle.gr_base.specs.Limits.{most_width}
use Rattle.wall_laws.specs.Walls.{least_on}
use Rattle.cut_bounds.proofs.net_tiles.least_need.Given as goal

abbrev pub invariant-loop-at : goal.invariant-loop-at
invariant-loop-at l = record {
  some : 1 ≤ l.at;
  least : l.least ≡ least_on l.width (take l.at l.frame.layers);
  most : l.least ≤ 2 * most_width;
}
