use Rattle.std.proofs.Common.{◌≡◌, ℕ, ◌*◌, inl, inr, replicate, slice_index, sym, subst, arith}
use Rattle.std.proofs.lemmas.Bool.{cases_lt}
use Rattle.std.proofs.lemmas.List.{get_or-replicate, get_or_past, length-replicate}
use Rattle.gr_base.specs.Grid.{cells_of}
use Rattle.gr_base.specs.Sums.{wire_number}
use Rattle.gr_base.specs.declared.grid.Shape.{Shape}
use Rattle.grid_demand.specs.LoadSums.{no_loads}
use Rattle.net_plan.specs.Prices.{HasBoundedDemand}
use Rattle.net_plan.proofs.FlatLemmas.{if-then}
use Rattle.plan_rows.proofs.plans.empty_loads.Goals as goal

zero-there : (n k : ℕ) → slice_index (replicate n 0) k ≡ 0
zero-there n k =
    elim (cases_lt k n) [
      | inl below ↦ get_or-replicate n k 0 0 below
      | inr past ↦ get_or_past (replicate n 0) k 0 (omega (arith, length-replicate {A = ℕ} n 0))
    ]

none-above : (g : Shape) → HasBoundedDemand (no_loads g)
none-above g e edge wire = let h = zero-there (2 * cells_of g) (wire_number e) in omega arith

pub returns-clause-demand : goal.returns-clause-demand
returns-clause-demand c =
    if-then {P = λ loads. loads ≡ no_loads c.args.capacity.now.shape} c.new.result
    (λ loads is. subst HasBoundedDemand (sym is) (none-above c.args.capacity.now.shape)) c.new.ensures
