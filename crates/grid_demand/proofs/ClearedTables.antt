-- Tables of edges that are emptied place by place.
use Rattle.std.proofs.Common.{◌≡◌, ℕ, ◌+◌, ◌*◌, ◌<◌, inl, inr, Bool, true, false, ◌||◌, ◌==◌, cond, List, [], ◌∷◌, take, get_or, length, slice_index_or, slice_set, All, refl, sym, ap, subst, ◌∙◌, arith}
use Rattle.std.proofs.lemmas.Bool.{cases_eq, cases_lt}
use Rattle.std.proofs.lemmas.Bool.Decides.{nat_tests}
use Rattle.std.proofs.lemmas.List.{take_more, get_or-set_same, get_or-set_other, get_or_past}
use Rattle.std.proofs.lemmas.List.Folds.{list_any-append}
use Rattle.gr_base.specs.Trees.{is_among}
use Rattle.grid_demand.proofs.OverfullSteps.{told-place}
use Rattle.grid_demand.proofs.PlaneLemmas.{length-by_number}
use Rattle.grid_demand.proofs.RangeFilters.{filter-has, filter-below}
use Rattle.grid_demand.specs.Overfull.{is_told, told_places}
use Rattle.grid_demand.specs.Planes.{by_number, edge_placed}

-- what the table says once one more of the places is cleared
pub cleared-more : (places : List ℕ) (over old : List Bool) (at : ℕ) → at < length places → get_or places at 0 < length over →
    ((n : ℕ) → slice_index_or over n false ≡ cond (is_among (take at places) n) false (slice_index_or old n false)) →
    (n : ℕ) → slice_index_or (slice_set over (get_or places at 0) false) n false ≡ cond (is_among (take (at + 1) places) n) false (slice_index_or old n false)
cleared-more places over old at inside below each n =
    let place : ℕ = get_or places at 0 in
    let more : is_among (take (at + 1) places) n ≡ (is_among (take at places) n || (place == n || false)) =
    ap (λ (xs : List ℕ). is_among xs n) (take_more places at 0 inside) ∙ list_any-append (λ (p : ℕ). p == n) (take at places) (place ∷ []) in
    elim (cases_eq n place) [
      | inl same ↦
          let here : (place == n) ≡ true = grind (arith, nat_tests) in
          let now : is_among (take (at + 1) places) n ≡ true = more ∙ last (is_among (take at places) n) (place == n) here in
          ap (λ (k : ℕ). slice_index_or (slice_set over place false) k false) same
          ∙ get_or-set_same over place false false below
          ∙ sym (ap (λ (b : Bool). cond b false (slice_index_or old n false)) now)
      | inr other ↦
          let apart : (place == n) ≡ false = grind (arith, nat_tests) in
          let now : is_among (take (at + 1) places) n ≡ is_among (take at places) n = more ∙ first (is_among (take at places) n) (place == n) apart in
          get_or-set_other over place n false false other ∙ each n ∙ ap (λ (b : Bool). cond b false (slice_index_or old n false)) (sym now)
    ]
  where
    last : (a b : Bool) → b ≡ true → (a || (b || false)) ≡ true
    last true b is = refl
    last false b is = rw is refl

    first : (a b : Bool) → b ≡ false → (a || (b || false)) ≡ a
    first true b is = refl
    first false b is = rw is refl

-- a table says nothing once all the places are cleared of which it said so
pub cleared-all : (over old : List Bool) (places : List ℕ) (cells n : ℕ) → length old ≡ 2 * cells → length over ≡ length old →
    places ≡ told_places (by_number false old) →
    ((n : ℕ) → slice_index_or over n false ≡ cond (is_among places n) false (slice_index_or old n false)) →
    slice_index_or over n false ≡ false
cleared-all over old places cells n long same listed each = elim (cases_lt n (length old)) [
  | inl below ↦
      let told : is_among places n ≡ slice_index_or old n false =
      ap (λ (xs : List ℕ). is_among xs n) listed
      ∙ filter-has (λ place. is_told (by_number false old) (edge_placed (length (by_number false old)) place)) 0 (length (by_number false old)) n (omega arith)
      (let whole = length-by_number false old in omega (arith, below, whole))
      ∙ ap (λ (w : ℕ). is_told (by_number false old) (edge_placed w n)) (length-by_number false old)
      ∙ told-place old cells n long (omega (arith, below, long)) in
      each n ∙ ap (λ (b : Bool). cond b false (slice_index_or old n false)) told ∙ both (slice_index_or old n false)
  | inr past ↦ get_or_past over n false (omega (arith, past, same))
]
  where
    both : (b : Bool) → cond b false b ≡ false
    both true = refl
    both false = refl

-- the places of which a table says so are its own
pub told-below : (over : List Bool) (places : List ℕ) → places ≡ told_places (by_number false over) → All (λ place. place < length over) places
told-below over places listed =
    subst (λ (xs : List ℕ). All (λ place. place < length over) xs) (sym listed)
    (subst (λ (w : ℕ). All (λ place. place < w) (told_places (by_number false over))) (length-by_number false over)
    (filter-below (λ place. is_told (by_number false over) (edge_placed (length (by_number false over)) place)) (length (by_number false over))))
