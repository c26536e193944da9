use Rattle.std.proofs.Common.{◌≡◌}
use Rattle.std.specs.List.{find}
use Rattle.grid_demand.specs.LoadSums.{demand_at}
use Rattle.book_state.specs.Books.{is_full, first_full}
use Rattle.book_state.proofs.EdgeSearch.{edges_from}
use Rattle.book_state.proofs.edges.first_full.Given as goal

abbrev pub invariant-loop-node : goal.invariant-loop-node
invariant-loop-node l =
    find (is_full l.capacity (demand_at l.loads) l.claim.net l.slack) (edges_from l.tree l.node)
    ≡ first_full l.capacity (demand_at l.loads) l.claim.net l.slack l.tree
