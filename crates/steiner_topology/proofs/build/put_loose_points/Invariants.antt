use Rattle.std.proofs.Common.{◌≡◌, map}
use Rattle.std.specs.List.{range_with_len}
use Rattle.steiner_topology.specs.Tile.{tile_at}
use Rattle.steiner_topology.specs.Topology.{point}
use Rattle.steiner_topology.proofs.build.put_loose_points.Given as goal

abbrev pub invariant-loop-parent : goal.invariant-loop-parent
invariant-loop-parent l = l.points.items ≡ map (λ v. point (tile_at l.fn.tiles v) v) (range_with_len 0 l.parent)
