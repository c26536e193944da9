-- The low ends that are gathered: what a sort and a `dedup` leave of them.
use Rattle.std.proofs.Common.{◌≡◌, ℕ, zero, suc, ◌+◌, ◌<◌, ◌≤◌, inl, inr, Bool, true, false, ◌||◌, ◌&&◌, ◌==◌, eqb, List, [], ◌∷◌, ◌++◌, length, get_or, take, cond, refl, sym, ap, ◌∙◌, subst, All, arith}
use Rattle.std.specs.List.{list_any, filter, range_with_len, dedup, dedup_from, AllByRecursion}
use Rattle.std.specs.List.Sorted.{IsStrictlyIncreasing, IsPermutation, IsSorted}
use Rattle.std.specs.Ordering.{nat_cmp}
use Rattle.std.proofs.Math.Bool.{or-false, and-true}
use Rattle.std.proofs.lemmas.Bool.{cases_Bool, cases_eq, false≢true}
use Rattle.std.proofs.lemmas.Bool.Decides.{nat_tests}
use Rattle.std.proofs.lemmas.List.Elements.{recursion_from_All, filter_agree}
use Rattle.std.proofs.lemmas.List.Filters.{All-dedup}
use Rattle.std.proofs.lemmas.List.Folds.{list_any-append, list_any_more}
use Rattle.std.proofs.lemmas.List.Sorted.{All-permutation, list_any-IsPermutation}
use Rattle.std.proofs.lemmas.Map.Keys.{IsStrictlyIncreasing-dedup}
use Rattle.gr_base.proofs.General.{filter-no}
use Rattle.gr_base.specs.declared.grid.Edge.{Edge}
use Rattle.gr_base.specs.declared.grid.Way.{Way}
use Rattle.gr_base.specs.Grid.{edge_at}
use Rattle.gr_base.specs.EdgeSets.{Edges, is_way, is_edge}
use Rattle.straight_runs.specs.Lows.{lows_below, is_low}

-- ---- one more edge

pub low-push : (way : Way) (lows : List ℕ) (edges : List Edge) (i : ℕ) (edge d : Edge) → i < length edges → edge ≡ get_or edges i d →
    is_way way edge.way ≡ true → ((cell : ℕ) → is_low lows cell ≡ list_any (is_edge (edge_at cell way)) (take i edges)) →
    (cell : ℕ) → is_low (lows ++ edge.low ∷ []) cell ≡ list_any (is_edge (edge_at cell way)) (take (i + 1) edges)
low-push way lows edges i edge d within at same before cell =
    let by_way : Bool → Bool = λ b. (cell == edge.low) && b in
    list_any-append (λ low. cell == low) lows (edge.low ∷ [])
    ∙ ap (λ (b : Bool). b || ((cell == edge.low) || false)) (before cell)
    ∙ ap (λ (b : Bool). list_any (is_edge (edge_at cell way)) (take i edges) || b) (or-false (cell == edge.low) ∙ sym (and-true (cell == edge.low)) ∙ sym (ap by_way same))
    ∙ ap (λ (e : Edge). list_any (is_edge (edge_at cell way)) (take i edges) || is_edge (edge_at cell way) e) at
    ∙ sym (list_any_more (is_edge (edge_at cell way)) edges i d within)

-- ---- a rising list is the filter of all numbers by its members

-- each number is at least the first, and above the one before it
abbrev pub RisesFrom : ℕ → List ℕ → Type 0
RisesFrom least [] = Unit {0}
RisesFrom least (x ∷ xs) = (least ≤ x) × RisesFrom (suc x) xs

-- all are below the bound
abbrev pub AllBelow : ℕ → List ℕ → Type 0
AllBelow bound xs = AllByRecursion (λ x. x < bound) xs

rises-lower : (low least : ℕ) (xs : List ℕ) → low ≤ least → RisesFrom least xs → RisesFrom low xs
rises-lower low least [] le h = tt
rises-lower low least (x ∷ xs) le h = let first = h.0 in (omega arith, h.1)

none-below : (least n : ℕ) (xs : List ℕ) → n < least → RisesFrom least xs → is_low xs n ≡ false
none-below least n [] lt h = refl
none-below least n (x ∷ xs) lt h =
    let first = h.0 in
    let other : (n == x) ≡ false = grind (arith, nat_tests) in
    rw other (none-below (suc x) n xs (omega arith) h.1)

filter-range : (p q : ℕ → Bool) (a n : ℕ) → ((k : ℕ) → a ≤ k → p k ≡ q k) → filter p (range_with_len a n) ≡ filter q (range_with_len a n)
filter-range p q a zero same = refl
filter-range p q a (suc n) same =
    let rest = filter-range p q (a + 1) n (λ k le. same k (omega arith)) in
    ap (λ (b : Bool). cond b (a ∷ filter p (range_with_len (a + 1) n)) (filter p (range_with_len (a + 1) n))) (same a (omega arith))
    ∙ ap (λ (l : List ℕ). cond (q a) (a ∷ l) l) rest

pub rising-is : (xs : List ℕ) (a n : ℕ) → RisesFrom a xs → AllBelow (a + n) xs → xs ≡ filter (is_low xs) (range_with_len a n)
rising-is [] a zero rises below = refl
rising-is (x ∷ xs) a zero rises below = let low = rises.0 in let high = below.0 in absurd (omega arith)
rising-is [] a (suc n) rises below = rising-is [] (a + 1) n tt tt
rising-is (x ∷ xs) a (suc n) rises below =
    let next : a + suc n ≡ a + 1 + n = omega arith in
    elim (cases_eq a x) [
      | inl here ↦
          let on : (a == x) ≡ true = grind (arith, nat_tests) in
          let low = rises.0 in
          let rest : xs ≡ filter (is_low xs) (range_with_len (a + 1) n) =
          rising-is xs (a + 1) n (rises-lower (a + 1) (suc x) xs (omega arith) rises.1) (subst (λ (m : ℕ). AllBelow m xs) next below.1) in
          let same : filter (is_low (x ∷ xs)) (range_with_len (a + 1) n) ≡ filter (is_low xs) (range_with_len (a + 1) n) =
          filter-range (is_low (x ∷ xs)) (is_low xs) (a + 1) n
          (λ k le. let off : (k == x) ≡ false = grind (arith, nat_tests) in rw off refl) in
          rw on (ap (λ (y : ℕ). y ∷ xs) (sym here) ∙ ap (λ (l : List ℕ). a ∷ l) (rest ∙ sym same))
      | inr other ↦
          let low = rises.0 in
          let off : is_low (x ∷ xs) a ≡ false = none-below (a + 1) a (x ∷ xs) (omega arith) (let above : a + 1 ≤ x = omega arith in (above, rises.1)) in
          let rest = rising-is (x ∷ xs) (a + 1) n (let above : a + 1 ≤ x = omega arith in (above, rises.1)) (subst (λ (m : ℕ). AllBelow m (x ∷ xs)) next below) in
          rest ∙ sym (filter-no (is_low (x ∷ xs)) a (range_with_len (a + 1) n) off)
    ]

-- ---- sorted, each once

pub rises-from : (xs : List ℕ) (least : ℕ) → IsStrictlyIncreasing xs → (0 < length xs → least ≤ get_or xs 0 0) → RisesFrom least xs
rises-from [] least up first = tt
rises-from (x ∷ xs) least up first =
    (first (omega arith), rises-from xs (suc x) (λ k lt. later k (up (suc k) (omega arith))) (λ some. up 0 (omega arith)))
  where
    later : (k : ℕ) → get_or xs k 0 < get_or (x ∷ xs) (suc k + 1) 0 → get_or xs k 0 < get_or xs (k + 1) 0
    later k h =
        let e : suc k + 1 ≡ suc (k + 1) = omega arith in
        let P : ℕ → Type 0 = λ n. get_or xs k 0 < get_or (x ∷ xs) n 0 in
        subst P e h

pub among-dedup : (xs : List ℕ) (n : ℕ) → is_low (dedup eqb xs) n ≡ is_low xs n
among-dedup [] n = refl
among-dedup (x ∷ xs) n = among-dedup_from x xs n
  where
    twice : (a b c : Bool) → a ≡ b → (a || c) ≡ (a || (b || c))
    twice true b c same = refl
    twice false true c same = absurd (false≢true same)
    twice false false c same = refl

    among-dedup_from : (k : ℕ) (xs : List ℕ) (n : ℕ) → is_low (dedup_from eqb k xs) n ≡ is_low (k ∷ xs) n
    among-dedup_from k [] n = refl
    among-dedup_from k (x ∷ xs) n =
        elim (cases_Bool (eqb x k)) [
          | inl same ↦
              let is : x ≡ k = grind (arith, nat_tests) in
              rw same (among-dedup_from k xs n ∙ twice (n == k) (n == x) (is_low xs n) (ap (λ (y : ℕ). n == y) (sym is)))
          | inr other ↦ rw other (ap (λ (b : Bool). (n == k) || b) (among-dedup_from x xs n))
        ]

-- what is left after a sort and a `dedup`
pub gathered : (pushed sorted final : List ℕ) (cells : ℕ) (set : Edges) (way : Way) → IsPermutation pushed sorted → IsSorted nat_cmp sorted →
    final ≡ dedup eqb sorted → ((cell : ℕ) → is_low pushed cell ≡ set (edge_at cell way)) → All (λ low. low < cells) pushed →
    final ≡ lows_below cells set way
gathered pushed sorted final cells set way moved up once members within =
    let rises = rises-from (dedup eqb sorted) 0 (IsStrictlyIncreasing-dedup sorted up) (λ some. omega arith) in
    let below = recursion_from_All (λ low. low < cells) (dedup eqb sorted) (All-dedup eqb (λ low. low < cells) sorted (All-permutation (λ low. low < cells) pushed sorted moved within)) in
    let P : ℕ → Type 0 = λ n. AllBelow n (dedup eqb sorted) in
    let all : cells ≡ 0 + cells = omega arith in
    let same = λ (cell : ℕ). among-dedup sorted cell ∙ sym (list_any-IsPermutation (λ low. cell == low) pushed sorted moved) ∙ members cell in
    once ∙ rising-is (dedup eqb sorted) 0 cells rises (subst P all below)
    ∙ filter_agree (is_low (dedup eqb sorted)) (λ cell. set (edge_at cell way)) same (range_with_len 0 cells)
