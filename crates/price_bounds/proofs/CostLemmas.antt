-- What nets cost, net by net, and what edges hold, edge by edge.
use Rattle.std.proofs.Common.{◌≡◌, ℕ, ◌+◌, ◌*◌, ◌≤◌, cond, Bool, true, false, List, [], ◌∷◌, ◌++◌, filter, sum_by, refl, sym, ap, ◌∙◌, arith}
use Rattle.std.specs.List.{range_with_len}
use Rattle.std.proofs.lemmas.List.Sums.{sum_by_push}
use Rattle.gr_base.proofs.General.{range-more}
use Rattle.gr_base.specs.Designs.{DesignView, is_routed}
use Rattle.gr_base.specs.EdgeSets.{Edges}
use Rattle.gr_base.specs.Grid.{cells_of, has_edge}
use Rattle.gr_base.specs.Sums.{wire_at, wires_from_cells}
use Rattle.gr_base.specs.declared.grid.Edge.{Edge}
use Rattle.grid_demand.proofs.RangeFilters.{filter-passes, filter-fails}
use Rattle.price_bounds.specs.Costs.{cost_of, cost_before, held_of, held_numbered, IsCostBound, IsCostOf}
use Rattle.price_laws.specs.Prices.{Prices, IsNetBound, held_price}
use Rattle.wall_laws.proofs.SumLemmas.{sum-filter, sum-map}

pub more-costs : (d : DesignView) (p : Prices) (allowed : Edges) (from net cost more sum : ℕ) → is_routed d net ≡ true → IsCostOf d p allowed from net cost →
    IsNetBound d p allowed net more → sum ≤ cost + more → IsCostOf d p allowed from (net + 1) sum
more-costs d p allowed from net cost more sum routed is one few sets joined =
    let before : List ℕ = filter (is_routed d) (range_with_len 0 net) in
    let all = ap (sum_by (cost_of d p sets)) (filter-passes (is_routed d) net before (before ++ net ∷ []) refl routed refl) in
    let push = sum_by_push (cost_of d p sets) before net in
    let low = is sets joined in
    let here = one (sets net) (joined net routed) in
    omega (arith, all, push, low, here, few)

pub same-costs : (d : DesignView) (p : Prices) (allowed : Edges) (from net cost : ℕ) → is_routed d net ≡ false → IsCostOf d p allowed from net cost →
    IsCostOf d p allowed from (net + 1) cost
same-costs d p allowed from net cost skipped is sets joined =
    let low = is sets joined in
    let all = ap (sum_by (cost_of d p sets)) (filter-fails (is_routed d) net (filter (is_routed d) (range_with_len 0 net)) refl skipped) in
    omega (arith, low, all)

-- no nets cost nothing
pub no-costs : (d : DesignView) (p : Prices) (allowed : Edges) (from to : ℕ) → from ≡ to → IsCostOf d p allowed from to 0
no-costs d p allowed from to same sets joined = let e = ap (cost_before d p sets) same in omega (arith, e)

-- nets and those behind them cost the sum, or more
pub costs-then : (d : DesignView) (p : Prices) (allowed : Edges) (from mid to cost more sum : ℕ) → IsCostOf d p allowed from mid cost →
    IsCostOf d p allowed mid to more → sum ≤ cost + more → IsCostOf d p allowed from to sum
costs-then d p allowed from mid to cost more sum is next few sets joined =
    let one = is sets joined in
    let two = next sets joined in
    omega (arith, one, two, few)

-- what nets cost up to the last one
pub costs-to-last : (d : DesignView) (p : Prices) (allowed : Edges) (to count cost : ℕ) → to ≡ count → IsCostOf d p allowed 0 to cost → IsCostBound d p allowed count cost
costs-to-last d p allowed to count cost same is sets joined =
    let low = is sets joined in
    let e = ap (cost_before d p sets) same in
    omega (arith, low, e)

-- ---- what edges hold

pub more-held : (f : ℕ → ℕ) (n held more : ℕ) → held ≡ sum_by f (range_with_len 0 n) → more ≡ f n → held + more ≡ sum_by f (range_with_len 0 (n + 1))
more-held f n held more is one =
    let all = ap (sum_by f) (range-more 0 n) in
    let push = sum_by_push f (range_with_len 0 n) (0 + n) in
    let last : f (0 + n) ≡ f n = ap f (omega arith) in
    omega (arith, is, one, all, push, last)

pub all-held : (d : DesignView) (p : Prices) (allowed : Edges) → sum_by (held_numbered d p allowed) (range_with_len 0 (2 * cells_of d.frame.shape)) ≡ held_price d p allowed
all-held d p allowed =
    let f : Edge → ℕ = held_of d p allowed in
    let kept : Edge → Bool = has_edge d.frame.shape in
    let term : Edge → ℕ = λ e. cond (kept e) (f e) 0 in
    sym (sum-filter f kept (wires_from_cells d.frame.shape) ∙ sum-map term wire_at (range_with_len 0 (2 * cells_of d.frame.shape)))
