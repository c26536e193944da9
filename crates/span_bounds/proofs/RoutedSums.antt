-- Sums over the routed nets, net by net.
use Rattle.std.proofs.Common.{◌≡◌, ℕ, ◌+◌, Bool, true, false, filter, sum_by, List, [], ◌∷◌, ◌++◌, refl, ap, ◌∙◌, arith}
use Rattle.std.specs.List.{range_with_len}
use Rattle.std.proofs.lemmas.List.Sums.{sum_by_push}
use Rattle.grid_demand.proofs.RangeFilters.{filter-passes, filter-fails}

pub routed-next : (f : ℕ → ℕ) (p : ℕ → Bool) (count total more : ℕ) → p count ≡ true → total ≡ sum_by f (filter p (range_with_len 0 count)) →
    more ≡ f count → total + more ≡ sum_by f (filter p (range_with_len 0 (count + 1)))
routed-next f p count total more routed is one =
    let before : List ℕ = filter p (range_with_len 0 count) in
    let all = ap (sum_by f) (filter-passes p count before (before ++ count ∷ []) refl routed refl) in
    let push = sum_by_push f before count in
    omega (arith, is, one, all, push)

pub routed-skip : (f : ℕ → ℕ) (p : ℕ → Bool) (count total : ℕ) → p count ≡ false → total ≡ sum_by f (filter p (range_with_len 0 count)) →
    total ≡ sum_by f (filter p (range_with_len 0 (count + 1)))
routed-skip f p count total skipped is =
    is ∙ ap (sum_by f) (filter-fails p count (filter p (range_with_len 0 count)) refl skipped)
