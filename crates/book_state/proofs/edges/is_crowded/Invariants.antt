use Rattle.std.proofs.Common.{◌≡◌}
use Rattle.std.specs.List.{list_any}
use Rattle.gr_base.specs.Trees.{tree_edges}
use Rattle.book_state.specs.Crowds.{is_overfull}
use Rattle.book_state.proofs.EdgeSearch.{edges_from}
use Rattle.book_state.proofs.edges.is_crowded.Given as goal

abbrev pub invariant-loop-node : goal.invariant-loop-node
invariant-loop-node l =
    list_any (is_overfull l.over.table) (edges_from l.tree l.node) ≡ list_any (is_overfull l.over.table) (tree_edges l.tree)
