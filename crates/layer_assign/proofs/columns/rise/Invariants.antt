use Rattle.std.proofs.Common.{◌≡◌, ◌-◌, ◌≤◌}
use Rattle.layer_assign.specs.NodeOrder.{rising}
use Rattle.layer_assign.proofs.ColumnLemmas.{Risen}
use Rattle.layer_assign.proofs.columns.rise.Given as goal

abbrev pub invariant-loop-layer : goal.invariant-loop-layer
invariant-loop-layer l = record {
  so_far : Risen l.fn.tree.shape l.fn.tree l.tree l.tile l.fn.from l.layer;
  shape : l.shape ≡ l.fn.tree.shape;
  above : l.fn.from ≤ l.layer;
  within : l.layer ≤ l.to;
  same : rising l.fn.tree.shape l.tile l.layer (l.to - l.layer) l.tree ≡ rising l.fn.tree.shape l.tile l.fn.from (l.to - l.fn.from) l.fn.tree;
}
