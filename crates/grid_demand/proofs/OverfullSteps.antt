-- Demands above their capacities, place by place.
use Rattle.std.proofs.Common.{◌≡◌, ℕ, suc, zero, ◌+◌, ◌-◌, ◌*◌, ◌^◌, ◌<◌, ◌≤◌, inl, inr, Bool, true, false, nat_lt, List, [], ◌∷◌, ◌++◌, map, fold, max, sum_by, zip, length, slice_index, slice_index_or, slice_set, refl, sym, ap, subst, ◌∙◌, arith}
use Rattle.std.specs.List.{filter, range_with_len}
use Rattle.std.proofs.lemmas.Bool.{cases_eq}
use Rattle.std.proofs.lemmas.Bool.Decides.{nat_tests}
use Rattle.std.proofs.lemmas.List.{length-set, get_or-set_same, get_or-set_other}
use Rattle.std.proofs.lemmas.List.FromFn.{sum_by-map-range_with_len_more, map-range_with_len_more}
use Rattle.std.proofs.lemmas.List.Sums.{fold_push}
use Rattle.gr_base.specs.Sums.{wire_number}
use Rattle.grid_demand.proofs.PlacedEdges.{is-placed}
use Rattle.grid_demand.proofs.PlaneLemmas.{place-below, length-by_number, by_number-at, sum-ranged, most-ranged}
use Rattle.grid_demand.proofs.RangeFilters.{filter-passes, filter-fails, filter-same}
use Rattle.grid_demand.specs.Listings.{is_above, excess, excess_before, Lists}
use Rattle.grid_demand.specs.Overfull.{is_told, told_places}
use Rattle.grid_demand.specs.Planes.{by_number, place_of, edge_placed}

-- the greatest of these before a place
abbrev pub most_before : (demands capacities : List ℕ) → ℕ → ℕ
most_before demands capacities at = fold max 0 (map (excess demands capacities) (range_with_len 0 at))

pub excess-more : (demands capacities : List ℕ) (at : ℕ) →
    excess_before demands capacities (at + 1) ≡ excess_before demands capacities at + excess demands capacities at
excess-more demands capacities at = sum_by-map-range_with_len_more (λ (k : ℕ). k) (excess demands capacities) 0 at at (omega arith)

pub most-more : (demands capacities : List ℕ) (at : ℕ) →
    most_before demands capacities (at + 1) ≡ max (most_before demands capacities at) (excess demands capacities at)
most-more demands capacities at =
    ap (fold max 0) (map-range_with_len_more (excess demands capacities) 0 at at (omega arith))
    ∙ fold_push max 0 (map (excess demands capacities) (range_with_len 0 at)) (excess demands capacities at)

-- one demand more, which isn't above its capacity
pub lists-within : (demands capacities : List ℕ) (over : List Bool) (places : List ℕ) (total at : ℕ) →
    Lists demands capacities over places total at → slice_index demands at ≤ slice_index capacities at →
    Lists demands capacities over places total (at + 1)
lists-within demands capacities over places total at lists within =
    let above : is_above demands capacities at ≡ false = grind (arith, nat_tests) in
    let none : excess demands capacities at ≡ 0 = omega (arith, within) in
    record {
      long = lists.long;
      done = λ n below. elim (cases_eq n at) [
        | inl same ↦ lists.rest n (omega (arith, same)) ∙ sym (ap (is_above demands capacities) same ∙ above)
        | inr other ↦ lists.done n (omega (arith, below, other))
      ];
      rest = λ n from. lists.rest n (omega (arith, from));
      listed = filter-fails (is_above demands capacities) at places lists.listed above;
      sum = let before = lists.sum in let more = excess-more demands capacities at in omega (arith, before, more, none);
      few = let few = lists.few in omega (arith, few);
    }

-- and a run of such demands
pub lists-passed : (count : ℕ) (demands capacities : List ℕ) (over : List Bool) (places : List ℕ) (total from to : ℕ) →
    Lists demands capacities over places total from → to ≡ from + count →
    ((n : ℕ) → from ≤ n → n < to → slice_index demands n ≤ slice_index capacities n) →
    Lists demands capacities over places total to
lists-passed zero demands capacities over places total from to lists is within =
    subst (λ (at : ℕ). Lists demands capacities over places total at) (let same : from ≡ to = omega (arith, is) in same) lists
lists-passed (suc count) demands capacities over places total from to lists is within =
    lists-passed count demands capacities over places total (from + 1) to
    (lists-within demands capacities over places total from lists (within from (omega arith) (omega (arith, is))))
    (omega (arith, is))
    (λ n low high. within n (omega (arith, low)) high)

-- one demand more, which is above its capacity
pub lists-above : (demands capacities : List ℕ) (over : List Bool) (places : List ℕ) (total at more : ℕ) →
    Lists demands capacities over places total at → at < length demands → slice_index capacities at < slice_index demands at →
    more ≡ excess demands capacities at → slice_index demands at < 2 ^ 64 →
    Lists demands capacities (slice_set over at true) (places ++ at ∷ []) (total + more) (at + 1)
lists-above demands capacities over places total at more lists inside beyond is small =
    let above : is_above demands capacities at ≡ true = grind (arith, nat_tests) in
    record {
      long = length-set over at true ∙ lists.long;
      done = λ n below. elim (cases_eq n at) [
        | inl same ↦
            ap (λ (k : ℕ). slice_index_or (slice_set over at true) k false) same
            ∙ get_or-set_same over at true false (let long = lists.long in omega (arith, long, inside))
            ∙ sym (ap (is_above demands capacities) same ∙ above)
        | inr other ↦ get_or-set_other over at n true false other ∙ lists.done n (omega (arith, below, other))
      ];
      rest = λ n from.
          let other : n ≡ at → ⊥ = λ same. absurd (omega (arith, from, same)) in
          get_or-set_other over at n true false other ∙ lists.rest n (omega (arith, from));
      listed = filter-passes (is_above demands capacities) at places (places ++ at ∷ []) lists.listed above refl;
      sum = let before = lists.sum in let next = excess-more demands capacities at in omega (arith, before, next, is);
      few = let few = lists.few in omega (arith, few, is, small);
    }

-- what the table by number says of the edge at a place
pub told-place : (over : List Bool) (cells place : ℕ) → length over ≡ 2 * cells → place < 2 * cells →
    is_told (by_number false over) (edge_placed (length over) place) ≡ slice_index_or over place false
told-place over cells place long below =
    let here = is-placed cells place below in
    let inside = here.number in
    ap (λ (w : ℕ). is_told (by_number false over) (edge_placed w place)) long
    ∙ by_number-at false over (wire_number (edge_placed (2 * cells) place)) (omega (arith, inside, long))
    ∙ ap (λ (w : ℕ). slice_index_or over (place_of w (wire_number (edge_placed (2 * cells) place))) false) long
    ∙ ap (λ (p : ℕ). slice_index_or over p false) here.back

-- the list has the places of which the table says so
pub lists-told : (demands capacities : List ℕ) (over : List Bool) (places : List ℕ) (total at cells : ℕ) →
    Lists demands capacities over places total at → at ≡ length demands → length demands ≡ 2 * cells →
    places ≡ told_places (by_number false over)
lists-told demands capacities over places total at cells lists all long =
    let whole : length over ≡ 2 * cells = lists.long ∙ long in
    let same_length = length-by_number false over in
    lists.listed
    ∙ ap (λ (n : ℕ). filter (is_above demands capacities) (range_with_len 0 n)) (all ∙ sym lists.long)
    ∙ filter-same (is_above demands capacities) (λ (place : ℕ). is_told (by_number false over) (edge_placed (length over) place)) 0 (length over)
    (λ k low high.
    let long_over = lists.long in
    sym (told-place over cells k whole (omega (arith, high, whole)) ∙ lists.done k (omega (arith, high, all, long_over))))
    ∙ ap (λ (n : ℕ). filter (λ (place : ℕ). is_told (by_number false over) (edge_placed n place)) (range_with_len 0 n)) (sym same_length)

-- what the table says by number
pub lists-each : (demands capacities : List ℕ) (over : List Bool) (places : List ℕ) (total at n : ℕ) →
    Lists demands capacities over places total at → at ≡ length demands → length capacities ≡ length demands → n < length demands →
    slice_index_or (by_number false over) n false ≡ nat_lt (slice_index (by_number 0 capacities) n) (slice_index (by_number 0 demands) n)
lists-each demands capacities over places total at n lists all limits below =
    let long = lists.long in
    let p = place_of (length demands) n in
    let inside : p < at = let place = place-below (length demands) n below in omega (arith, place, all) in
    by_number-at false over n (omega (arith, below, long))
    ∙ ap (λ (w : ℕ). slice_index_or over (place_of w n) false) long
    ∙ lists.done p inside
    ∙ ap (λ (k : ℕ). nat_lt k (slice_index demands p))
    (sym (by_number-at 0 capacities n (omega (arith, below, limits)) ∙ ap (λ (w : ℕ). slice_index capacities (place_of w n)) limits))
    ∙ ap (λ (k : ℕ). nat_lt (slice_index (by_number 0 capacities) n) k) (sym (by_number-at 0 demands n below))

-- the sum of what the demands are above
pub excess-sum : (demands capacities : List ℕ) (total at : ℕ) → total ≡ excess_before demands capacities at → at ≡ length demands →
    length capacities ≡ length demands → total ≡ sum_by (λ (p : ℕ × ℕ). p.0 - p.1) (zip demands capacities)
excess-sum demands capacities total at is all limits =
    is ∙ ap (excess_before demands capacities) all ∙ sym (sum-ranged demands capacities (length demands) refl limits)

-- and the greatest
pub excess-most : (demands capacities : List ℕ) (most at : ℕ) → most ≡ most_before demands capacities at → at ≡ length demands →
    length capacities ≡ length demands → most ≡ fold (λ m (p : ℕ × ℕ). max m (p.0 - p.1)) 0 (zip demands capacities)
excess-most demands capacities most at is all limits =
    is ∙ ap (most_before demands capacities) all ∙ sym (most-ranged demands capacities (length demands) refl limits)

-- that sum where the places are listed
pub lists-sum : (demands capacities : List ℕ) (over : List Bool) (places : List ℕ) (total at : ℕ) →
    Lists demands capacities over places total at → at ≡ length demands → length capacities ≡ length demands →
    total ≡ sum_by (λ (p : ℕ × ℕ). p.0 - p.1) (zip demands capacities)
lists-sum demands capacities over places total at lists all limits =
    excess-sum demands capacities total at lists.sum all limits
