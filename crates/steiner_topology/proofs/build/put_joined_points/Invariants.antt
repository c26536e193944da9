use Rattle.std.proofs.Common.{◌≡◌, take, fold, length}
use Rattle.steiner_topology.specs.Topology.{with_pair, loose_points}
use Rattle.steiner_topology.proofs.build.put_joined_points.Given as goal

abbrev pub invariant-loop-join : goal.invariant-loop-join
invariant-loop-join l = record {
  so_far : l.points.items ≡ fold with_pair (loose_points l.tiles) (take l.join-index l.joins);
  size : length l.points.items ≡ length l.tiles;
}
