-- Sums and least times over the numbers below one, of which the value at one number changes.
use Rattle.std.proofs.Common.{◌≡◌, ◌≢◌, ℕ, suc, zero, ◌+◌, ◌<◌, ◌≤◌, ℤ, pos, ◌-ℤ◌, inl, inr, Bool, true, false, List, [], ◌∷◌, ◌++◌, map, filter, Option, Some, None, if◌then◌else◌, refl, sym, ap, ◌∙◌, arith}
use Rattle.std.proofs.lemmas.Bool.{cases_eq}
use Rattle.std.proofs.lemmas.Int.{ints, clamps}
use Rattle.std.proofs.lemmas.List.Elements.{filter-append}
use Rattle.std.proofs.lemmas.List.FromFn.{map-range_with_len_more}
use Rattle.std.proofs.lemmas.List.Sums.{sum_by-append}
use Rattle.std.specs.Int.{int_min}
use Rattle.std.specs.List.{range_with_len, sum_by}
use Rattle.gr_base.proofs.General.{range-more}
use Rattle.elmore_delay.specs.RcTrees.{sooner}
use Rattle.elmore_delay.specs.FromLeaves.{less}

-- the sum of f over the numbers below one
abbrev pub sums : (ℕ → ℕ) → ℕ → ℕ
sums f zero = 0
sums f (suc n) = sums f n + f n

-- the terms of the numbers that pass a test
abbrev pub only : (ℕ → Bool) → (ℕ → ℕ) → ℕ → ℕ
only p f n = if p n then f n else 0

pub sums-same : (f h : ℕ → ℕ) (n : ℕ) → ((u : ℕ) → u < n → h u ≡ f u) → sums h n ≡ sums f n
sums-same f h zero each = refl
sums-same f h (suc n) each =
    let rest = sums-same f h n (λ u below. each u (omega arith)) in
    let last = each n (omega arith) in
    omega (arith, rest, last)

-- one term is greater by x
pub sums-raised : (f h : ℕ → ℕ) (x n p : ℕ) → p < n → h p ≡ f p + x → ((u : ℕ) → u < n → u ≢ p → h u ≡ f u) → sums h n ≡ sums f n + x
sums-raised f h x zero p below here each = absurd (omega arith)
sums-raised f h x (suc n) p below here each =
    elim (cases_eq p n) [
      | inl same ↦
          let rest = sums-same f h n (λ u lt. each u (omega arith) (λ e. omega arith)) in
          let at : f p ≡ f n = ap f same in
          let to : h p ≡ h n = ap h same in
          omega (arith, rest, at, to, here)
      | inr other ↦
          let rest = sums-raised f h x n p (omega arith) here (λ u lt apart. each u (omega arith) apart) in
          let last = each n (omega arith) (λ e. other (sym e)) in
          omega (arith, rest, last)
    ]

pub sums-none : (f : ℕ → ℕ) (n : ℕ) → ((u : ℕ) → u < n → f u ≡ 0) → sums f n ≡ 0
sums-none f zero each = refl
sums-none f (suc n) each =
    let rest = sums-none f n (λ u below. each u (omega arith)) in
    let last = each n (omega arith) in
    omega (arith, rest, last)

-- the sum over fewer numbers
pub sums-part : (f : ℕ → ℕ) (n m : ℕ) → n ≤ m → sums f n ≤ sums f m
sums-part f n zero le = let none : n ≡ 0 = omega arith in omega (arith, ap (λ (k : ℕ). sums f k) none)
sums-part f n (suc m) le =
    elim (cases_eq n (suc m)) [
      | inl same ↦ omega (arith, ap (λ (k : ℕ). sums f k) same)
      | inr other ↦ let rest = sums-part f n m (omega arith) in omega (arith, rest)
    ]

-- the sum over the numbers of a range that pass a test
pub sum-passing : (p : ℕ → Bool) (f : ℕ → ℕ) (n : ℕ) → sum_by f (filter p (range_with_len 0 n)) ≡ sums (only p f) n
sum-passing p f zero = refl
sum-passing p f (suc n) =
    let more : suc n ≡ n + 1 = omega arith in
    let here : 0 + n ≡ n = omega arith in
    ap (λ (k : ℕ). sum_by f (filter p (range_with_len 0 k))) more
    ∙ ap (λ (ns : List ℕ). sum_by f (filter p ns)) (range-more 0 n)
    ∙ ap (λ (k : ℕ). sum_by f (filter p (range_with_len 0 n ++ k ∷ []))) here
    ∙ ap (λ (ns : List ℕ). sum_by f ns) (filter-append p (range_with_len 0 n) (n ∷ []))
    ∙ sum_by-append f (filter p (range_with_len 0 n)) (filter p (n ∷ []))
    ∙ ap (λ (k : ℕ). k + sum_by f (filter p (n ∷ []))) (sum-passing p f n)
    ∙ ap (λ (k : ℕ). sums (only p f) n + k) (last (p n))
  where
    last : (b : Bool) → sum_by f (if b then n ∷ [] else []) ≡ (if b then f n else 0)
    last true = omega arith
    last false = refl

-- the least of f over the numbers below one
abbrev pub least : (ℕ → Option ℤ) → ℕ → Option ℤ
least f zero = None
least f (suc n) = sooner (least f n) (f n)

pub sooner-swap : (x y : Option ℤ) → sooner x y ≡ sooner y x
sooner-swap None None = refl
sooner-swap None (Some y) = refl
sooner-swap (Some x) None = refl
sooner-swap (Some x) (Some y) = let e : int_min x y ≡ int_min y x = omega (arith, ints, clamps) in ap (λ (z : ℤ). Some z) e

pub sooner-group : (x y z : Option ℤ) → sooner (sooner x y) z ≡ sooner x (sooner y z)
sooner-group None y z = refl
sooner-group (Some x) None z = refl
sooner-group (Some x) (Some y) None = refl
sooner-group (Some x) (Some y) (Some z) =
    let e : int_min (int_min x y) z ≡ int_min x (int_min y z) = omega (arith, ints, clamps) in ap (λ (i : ℤ). Some i) e

pub least-same : (f h : ℕ → Option ℤ) (n : ℕ) → ((u : ℕ) → u < n → h u ≡ f u) → least h n ≡ least f n
least-same f h zero each = refl
least-same f h (suc n) each =
    ap (λ (o : Option ℤ). sooner o (h n)) (least-same f h n (λ u below. each u (omega arith)))
    ∙ ap (λ (o : Option ℤ). sooner (least f n) o) (each n (omega arith))

-- one value is now the sooner of it and x
pub least-lowered : (f h : ℕ → Option ℤ) (x : Option ℤ) (n p : ℕ) → p < n → h p ≡ sooner (f p) x →
    ((u : ℕ) → u < n → u ≢ p → h u ≡ f u) → least h n ≡ sooner (least f n) x
least-lowered f h x zero p below here each = absurd (omega arith)
least-lowered f h x (suc n) p below here each =
    elim (cases_eq p n) [
      | inl same ↦
          let rest = least-same f h n (λ u lt. each u (omega arith) (λ e. omega arith)) in
          let last : h n ≡ sooner (f n) x = sym (ap h same) ∙ here ∙ ap (λ (k : ℕ). sooner (f k) x) same in
          ap (λ (o : Option ℤ). sooner o (h n)) rest ∙ ap (λ (o : Option ℤ). sooner (least f n) o) last
          ∙ sym (sooner-group (least f n) (f n) x)
      | inr other ↦
          let rest = least-lowered f h x n p (omega arith) here (λ u lt apart. each u (omega arith) apart) in
          let last = each n (omega arith) (λ e. other (sym e)) in
          ap (λ (o : Option ℤ). sooner o (h n)) rest ∙ ap (λ (o : Option ℤ). sooner (sooner (least f n) x) o) last
          ∙ sooner-group (least f n) x (f n) ∙ ap (λ (o : Option ℤ). sooner (least f n) o) (sooner-swap x (f n))
          ∙ sym (sooner-group (least f n) (f n) x)
    ]

pub least-none : (f : ℕ → Option ℤ) (n : ℕ) → ((u : ℕ) → f u ≡ None) → least f n ≡ None
least-none f zero each = refl
least-none f (suc n) each =
    ap (λ (o : Option ℤ). sooner o (f n)) (least-none f n each) ∙ ap (λ (o : Option ℤ). sooner None o) (each n)

-- delays that are taken one after the other, and one that is taken from the sooner of two times
pub less-twice : (d e : ℕ) (time : Option ℤ) → less e (less d time) ≡ less (e + d) time
less-twice d e None = refl
less-twice d e (Some at) = let same : at -ℤ pos d -ℤ pos e ≡ at -ℤ pos (e + d) = omega (arith, ints) in ap (λ (z : ℤ). Some z) same

pub less-sooner : (d : ℕ) (x y : Option ℤ) → less d (sooner x y) ≡ sooner (less d x) (less d y)
less-sooner d None y = refl
less-sooner d (Some x) None = refl
less-sooner d (Some x) (Some y) =
    let same : int_min x y -ℤ pos d ≡ int_min (x -ℤ pos d) (y -ℤ pos d) = omega (arith, ints, clamps) in ap (λ (z : ℤ). Some z) same

pub less-none : (time : Option ℤ) → less 0 time ≡ time
less-none None = refl
less-none (Some at) = let same : at -ℤ pos 0 ≡ at = omega (arith, ints) in ap (λ (z : ℤ). Some z) same

-- a table of f for the numbers below one, with one more entry
pub table-more : {X : Type 0} (f : ℕ → X) (n : ℕ) (before after : List X) (entry : X) → after ≡ before ++ entry ∷ [] →
    before ≡ map f (range_with_len 0 n) → entry ≡ f n → after ≡ map f (range_with_len 0 (n + 1))
table-more {X = X} f n before after entry pushed table is =
    let here : 0 + n ≡ n = omega arith in
    pushed ∙ ap (λ (xs : List X). xs ++ entry ∷ []) table ∙ ap (λ (x : X). map f (range_with_len 0 n) ++ x ∷ []) is
    ∙ sym (map-range_with_len_more f 0 n n here)
