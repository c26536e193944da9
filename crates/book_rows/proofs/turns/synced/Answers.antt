use Rattle.std.proofs.Common.{sym, ap, subst, ◌∙◌}
use Rattle.std.specs.Prelude.{IsTrue}
use Rattle.gr_base.specs.Grid.{has_edge}
use Rattle.gr_base.specs.declared.grid.Shape.{Shape}
use Rattle.grid_demand.specs.LoadSums.{LoadsView}
use Rattle.book_rows.specs.Rows.{first_edge}
use Rattle.book_rows.proofs.turns.synced.Goals as goal

pub demand-requires-clause-edge : goal.demand-requires-clause-edge
demand-requires-clause-edge g c =
    let stands = c.in_ok-sync.ensures.stands in
    let shape = ap (λ (l : LoadsView). l.shape) c.loads.ensures ∙ stands.loads.shape in
    subst (λ (s : Shape). IsTrue (has_edge s first_edge)) (sym shape) c.requires.edge
