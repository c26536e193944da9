use Rattle.std.proofs.Common.{◌<◌, ◌+◌, length}
use Rattle.layer_assign.specs.Raising.{IsEarly}
use Rattle.layer_assign.proofs.columns.last_node_at.Given as goal

abbrev pub invariant-loop-node : goal.invariant-loop-node
invariant-loop-node l = record {
  inside : l.node < length l.tree.nodes;
  early : IsEarly l.tree (l.node + 1) l.cell;
}

abbrev pub decreases-loop-node : goal.decreases-loop-node
decreases-loop-node l = l.node
