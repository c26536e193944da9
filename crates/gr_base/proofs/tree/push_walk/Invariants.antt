use Rattle.std.proofs.Common.{◌≡◌, ◌-◌, ◌≤◌, ◌+◌, length, slice_get, drop, vec_len, vec_capacity}
use Rattle.gr_base.specs.Trees.{TreeView, cell_at, IsTree, IsWalkTo}
use Rattle.gr_base.proofs.TreeGrowth.{Attaching}
use Rattle.gr_base.proofs.tree.push_walk.Given as goal

abbrev pub invariant-loop-at : goal.invariant-loop-at
invariant-loop-at l = record {
  so_far :
      (t : TreeView) → IsTree t → t.nodes ≡ l.fn.nodes.items → IsWalkTo t l.walk →
      cell_at l.fn.nodes.items l.fn.parent ≡ slice_get l.walk (length l.walk - 1) → Attaching t (drop l.at l.walk) l.nodes.items l.parent;
  room : vec_len l.nodes + l.at ≤ vec_capacity l.nodes;
  count : length l.nodes.items + l.at + 1 ≡ length l.fn.nodes.items + length l.walk;
}
