use Rattle.std.proofs.Common.{◌≡◌, ℕ, ◌<◌, ◌≤◌, true, length, get_or}
use Rattle.gr_base.specs.Trees.{cell_at}
use Rattle.layer_assign.specs.Spans.{span_in}
use Rattle.layer_assign.specs.Raising.{is_done, IsRaised, AreEnds}
use Rattle.layer_assign.specs.NodeOrder.{climbing}
use Rattle.layer_assign.proofs.raised.raise_ancestors.Given as goal

abbrev pub invariant-loop-node : goal.invariant-loop-node
invariant-loop-node l = record {
  inside : l.node < length l.fn.flat.nodes;
  marks : length l.ends.items ≡ length l.fn.flat.nodes;
  own : is_done l.ends.items l.node ≡ true;
  only : (node : ℕ) → is_done l.ends.items node ≡ true → l.node ≤ node;
  raised : IsRaised l.fn.tree.shape l.fn.flat (λ node. get_or l.fn.layers node 0) (span_in l.fn.spans) (cell_at l.fn.tree.nodes 0) (is_done l.ends.items) l.node l.tree;
  same : climbing l.fn.tree.shape l.fn.flat (λ node. get_or l.fn.layers node 0) (span_in l.fn.spans) l.node l.node l.tree
      ≡ climbing l.fn.tree.shape l.fn.flat (λ node. get_or l.fn.layers node 0) (span_in l.fn.spans) l.fn.start l.fn.start l.fn.tree;
  ends : AreEnds l.fn.tree.shape l.fn.flat (span_in l.fn.spans) l.ends.items l.tree;
}

abbrev pub decreases-loop-node : goal.decreases-loop-node
decreases-loop-node l = l.node
