use Rattle.std.proofs.Common.{ap, ◌∙◌, length}
use Rattle.steiner_topology.proofs.TopologyLemmas.{length-loose}
use Rattle.steiner_topology.proofs.build.put_joined_points.Goals as goal

pub loop-join-init : goal.loop-join-init
loop-join-init c = record {
  so_far = c.in_ok-put_loose_points.ensures;
  size = ap length c.in_ok-put_loose_points.ensures ∙ length-loose c.args.tiles.now;
}
