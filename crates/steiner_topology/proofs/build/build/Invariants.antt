use Rattle.std.proofs.Common.{◌≡◌, take, fold}
use Rattle.steiner_topology.specs.Joins.{joins_of}
use Rattle.steiner_topology.specs.Topology.{prim_points, handled}
use Rattle.steiner_topology.specs.Children.{AreChildren, lists_of}
use Rattle.steiner_topology.proofs.build.build.Given as goal

abbrev pub invariant-loop-join : goal.invariant-loop-join
invariant-loop-join l = record {
  handled : l.points.items ≡ fold handled (prim_points l.tiles) (take l.join-index (joins_of l.tiles));
  children : AreChildren l.points.items (lists_of l.children.items);
}
