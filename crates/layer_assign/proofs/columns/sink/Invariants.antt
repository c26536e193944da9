use Rattle.std.proofs.Common.{◌≡◌, ◌-◌, ◌≤◌}
use Rattle.layer_assign.specs.NodeOrder.{sinking}
use Rattle.layer_assign.proofs.ColumnLemmas.{Sunk}
use Rattle.layer_assign.proofs.columns.sink.Given as goal

abbrev pub invariant-loop-layer : goal.invariant-loop-layer
invariant-loop-layer l = record {
  so_far : Sunk l.fn.tree.shape l.fn.tree l.tree l.tile l.fn.from l.layer;
  shape : l.shape ≡ l.fn.tree.shape;
  above : l.layer ≤ l.fn.from;
  below : l.fn.to ≤ l.layer;
  same : sinking l.fn.tree.shape l.tile l.fn.to (l.layer - l.fn.to) l.tree ≡ sinking l.fn.tree.shape l.tile l.fn.to (l.fn.from - l.fn.to) l.fn.tree;
}
