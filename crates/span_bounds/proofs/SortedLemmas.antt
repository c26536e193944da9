-- How many different numbers a sort and a `dedup` leave, and how far numbers are apart.
use Rattle.std.proofs.Common.{◌≡◌, ℕ, suc, ◌+◌, ◌-◌, ◌<◌, ◌≤◌, ◌||◌, ◌&&◌, ◌==◌, eqb, inl, inr, Bool, true, false, cond, List, [], ◌∷◌, length, get_or, filter, map, All, slice_index_or, if◌then◌else◌, max, min, fold, refl, sym, ap, ◌∙◌, arith}
use Rattle.std.specs.List.{list_all, dedup}
use Rattle.std.specs.List.Sorted.{IsPermutation, IsSorted}
use Rattle.std.specs.Ordering.{nat_cmp}
use Rattle.std.proofs.lemmas.Bool.{cases_Bool, cases_eq, eqb-true, eq-eqb, ne_eqb}
use Rattle.std.proofs.lemmas.List.Folds.{list_any_at}
use Rattle.std.proofs.lemmas.List.Sorted.{list_any-IsPermutation}
use Rattle.std.proofs.lemmas.List.Sums.{length-filter, count_by-le-length}
use Rattle.std.proofs.lemmas.Map.Keys.{IsStrictlyIncreasing-dedup}
use Rattle.gr_base.proofs.General.{eqb-swap, fold-min-low, fold-max-high}
use Rattle.gr_base.specs.Trees.{is_among}
use Rattle.straight_runs.proofs.LowLemmas.{RisesFrom, rises-from, among-dedup}
use Rattle.straight_runs.specs.Lows.{is_low}
use Rattle.wall_laws.proofs.ForcedLemmas.{each_once, length-once}
use Rattle.wall_laws.proofs.TileLemmas.{different-among}
use Rattle.wall_laws.specs.Spans.{different, least_of, most_of}

-- two words for a number that is in a list
in-list : (ns : List ℕ) (n : ℕ) → is_among ns n ≡ is_low ns n
in-list [] n = refl
in-list (m ∷ ns) n = ap (λ (b : Bool). b || is_among ns n) (eqb-swap m n) ∙ ap (λ (b : Bool). n == m || b) (in-list ns n)

-- each number once has the same numbers
among-once : (ns : List ℕ) (x : ℕ) → is_among (each_once ns) x ≡ is_among ns x
among-once [] x = refl
among-once (n ∷ ns) x = by (is_among ns n) refl (among-once ns x)
  where
    by : (b : Bool) → is_among ns n ≡ b → is_among (each_once ns) x ≡ is_among ns x →
        is_among (if b then each_once ns else n ∷ each_once ns) x ≡ (n == x || is_among ns x)
    by true is rest =
        elim (cases_Bool (n == x)) [
          | inl same ↦
              let there : is_among ns x ≡ true = ap (is_among ns) (sym (eqb-true n x same)) ∙ is in
              rest ∙ there ∙ sym (ap (λ (c : Bool). c || is_among ns x) same)
          | inr apart ↦ rest ∙ sym (ap (λ (c : Bool). c || is_among ns x) apart)
        ]
    by false is rest = ap (λ (c : Bool). n == x || c) rest

among-itself : (ns : List ℕ) (others : List ℕ) → ((n : ℕ) → is_among ns n ≡ true → is_among others n ≡ true) → All (λ n. is_among others n ≡ true) ns
among-itself ns others same k d below =
    same (slice_index_or ns k d) (list_any_at (λ other. other == slice_index_or ns k d) ns k d below (eq-eqb (slice_index_or ns k d) (slice_index_or ns k d) refl))

-- a number below all that rise isn't among them
before-rising : (least n : ℕ) (ns : List ℕ) → n < least → RisesFrom least ns → is_among ns n ≡ false
before-rising least n [] before rises = refl
before-rising least n (m ∷ ns) before rises =
    let first = rises.0 in
    let off : (m == n) ≡ false = ne_eqb m n (λ same. omega (arith, same, first, before)) in
    ap (λ (b : Bool). b || is_among ns n) off ∙ before-rising (suc m) n ns (omega (arith, first, before)) rises.1

rising-different : (least : ℕ) (ns : List ℕ) → RisesFrom least ns → different ns ≡ length ns
rising-different least [] rises = refl
rising-different least (n ∷ ns) rises =
    let rest = rising-different (suc n) ns rises.1 in
    let one : cond {A = ℕ} (is_among ns n) 0 1 ≡ 1 =
    ap (λ (b : Bool). cond {A = ℕ} b 0 1) (before-rising (suc n) n ns (omega arith) rises.1) in
    omega (arith, rest, one)

-- what is left after a sort and a `dedup` is as long as there are different numbers
pub sorted-different : (numbers sorted final : List ℕ) → IsPermutation numbers sorted → IsSorted nat_cmp sorted → final ≡ dedup eqb sorted →
    length final ≡ different numbers
sorted-different numbers sorted final moved up once =
    let left : List ℕ = dedup eqb sorted in
    let same : (n : ℕ) → is_among left n ≡ is_among numbers n =
    λ n. in-list left n ∙ among-dedup sorted n ∙ sym (list_any-IsPermutation (λ low. n == low) numbers sorted moved) ∙ sym (in-list numbers n) in
    let rises = rising-different 0 left (rises-from left 0 (IsStrictlyIncreasing-dedup sorted up) (λ some. omega arith)) in
    let few = different-among numbers left (among-itself numbers left (λ n there. same n ∙ there)) in
    let many = different-among left (each_once numbers) (among-itself left (each_once numbers) (λ n there. among-once numbers n ∙ sym (same n) ∙ there)) in
    let long = length-once numbers in
    let final_is : length final ≡ length left = ap (λ (ns : List ℕ). length ns) once in
    omega (arith, rises, few, many, long, final_is)

pub least-most : (ns : List ℕ) → least_of ns ≤ most_of ns
least-most [] = omega arith
least-most (n ∷ ns) = let low = fold-min-low n ns in let high = fold-max-high n ns in omega (arith, low, high)

-- all elements pass where as many are left
pub all-left : {X : Type 0} (p : X → Bool) (xs : List X) → (length (filter p xs) == length xs) ≡ list_all p xs
all-left p [] = refl
all-left {X = X} p (x ∷ xs) = by (p x) (filter p xs) (all-left p xs) (few xs)
  where
    next : (a b : ℕ) → (suc a == suc b) ≡ (a == b)
    next a b =
        elim (cases_eq a b) [
          | inl same ↦ eq-eqb (suc a) (suc b) (ap (λ (n : ℕ). suc n) same) ∙ sym (eq-eqb a b same)
          | inr apart ↦ ne_eqb (suc a) (suc b) (λ same. apart (omega (arith, same))) ∙ sym (ne_eqb a b apart)
        ]

    few : (ys : List X) → length (filter p ys) ≤ length ys
    few ys = let is = length-filter p ys in let most = count_by-le-length p ys in omega (arith, is, most)

    by : (b : Bool) (rest : List X) → (length rest == length xs) ≡ list_all p xs → length rest ≤ length xs →
        (length (cond b (x ∷ rest) rest) == length (x ∷ xs)) ≡ (b && list_all p xs)
    by true rest same most = next (length rest) (length xs) ∙ same
    by false rest same most = ne_eqb (length rest) (length (x ∷ xs)) (λ is. omega (arith, is, most))
