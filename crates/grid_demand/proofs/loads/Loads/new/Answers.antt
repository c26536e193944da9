use Rattle.std.proofs.Common.{ℕ, ◌*◌, replicate, sym, ap, subst, ◌∙◌}
use Rattle.grid_demand.specs.LoadSums.{LoadsView, AreLoads, no_loads}
use Rattle.gr_base.specs.declared.grid.Shape.{Shape}
use Rattle.grid_demand.proofs.LoadLemmas.{no-loads, loads-new}
use Rattle.grid_demand.proofs.loads.Loads.new.Goals as goal

pub invariant_of-result : goal.invariant_of-result
invariant_of-result c =
    let zeros = c.in_ok-none.ensures ∙ ap (λ (n : ℕ). replicate (2 * n) 0) c.cells.ensures.cells in
    let none = c.in_ok-none-2.ensures ∙ ap (λ (n : ℕ). replicate (2 * n) 0) c.cells.ensures.cells in
    record {
      loads =
          subst (λ (l : LoadsView). AreLoads l)
          (sym (loads-new c.shape-shape.result c.in_ok-none.field-0 c.in_ok-none-2.field-0 zeros none))
          (no-loads c.shape-shape.result);
      unmarked = λ is. none;
    }

pub returns : goal.returns
returns c =
    let zeros = c.in_ok-none.ensures ∙ ap (λ (n : ℕ). replicate (2 * n) 0) c.cells.ensures.cells in
    let none = c.in_ok-none-2.ensures ∙ ap (λ (n : ℕ). replicate (2 * n) 0) c.cells.ensures.cells in
    loads-new c.shape-shape.result c.in_ok-none.field-0 c.in_ok-none-2.field-0 zeros none
    ∙ ap (λ (g : Shape). no_loads g) c.shape-shape.ensures.shape
