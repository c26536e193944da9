use Rattle.std.proofs.Common.{◌≡◌, ℕ, ◌-◌, ◌<◌, ◌≤◌, true, length, get_or}
use Rattle.gr_base.specs.Trees.{cell_at}
use Rattle.layer_assign.specs.Spans.{span_in}
use Rattle.layer_assign.specs.Raising.{is_done, IsRaised, AreEnds}
use Rattle.layer_assign.specs.NodeOrder.{filling}
use Rattle.layer_assign.proofs.raised.raise_others.Given as goal

abbrev pub invariant-loop-node : goal.invariant-loop-node
invariant-loop-node l = record {
  later : 0 < l.node;
  marks : length l.ends.items ≡ length l.fn.flat.nodes;
  before : (node : ℕ) → node < l.node → is_done l.ends.items node ≡ true;
  raised : IsRaised l.fn.tree.shape l.fn.flat (λ node. get_or l.fn.layers node 0) (span_in l.fn.spans) (cell_at l.fn.tree.nodes 0) (is_done l.ends.items) 0 l.tree;
  within : l.node ≤ length l.fn.flat.nodes;
  same : filling l.fn.tree.shape l.fn.flat (λ node. get_or l.fn.layers node 0) (span_in l.fn.spans) (length l.fn.flat.nodes - l.node) l.node l.tree
      ≡ filling l.fn.tree.shape l.fn.flat (λ node. get_or l.fn.layers node 0) (span_in l.fn.spans) (length l.fn.flat.nodes - 1) 1 l.fn.tree;
  ends : AreEnds l.fn.tree.shape l.fn.flat (span_in l.fn.spans) l.ends.items l.tree;
}
