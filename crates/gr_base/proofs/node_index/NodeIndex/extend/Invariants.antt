use Rattle.std.proofs.Common.{◌≡◌, length, take}
use Rattle.gr_base.specs.NodeIndexes.{Indexes}
use Rattle.gr_base.proofs.node_index.NodeIndex.extend.Given as goal

abbrev pub invariant-loop-node : goal.invariant-loop-node
invariant-loop-node l = record {
  index : Indexes l.self-inside.nodes.items (take l.node l.tree.nodes);
  cells : length l.self-inside.nodes.items ≡ length l.fn.self;
}
