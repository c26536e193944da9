-- Filters of ranges of numbers.
use Rattle.std.proofs.Common.{◌≡◌, ℕ, suc, zero, ◌+◌, ◌<◌, ◌≤◌, inl, inr, Bool, true, false, ◌==◌, cond, List, [], ◌∷◌, ◌++◌, All, refl, sym, ap, ◌∙◌, arith}
use Rattle.std.specs.List.{filter, range_with_len}
use Rattle.std.specs.List.Sorted.{IsStrictlyIncreasing}
use Rattle.std.proofs.lemmas.Bool.{cases_Bool, cases_eq}
use Rattle.std.proofs.lemmas.Bool.Decides.{nat_tests}
use Rattle.std.proofs.lemmas.List.{append-nil}
use Rattle.std.proofs.lemmas.List.Elements.{All-filter, filter-append}
use Rattle.std.proofs.lemmas.List.FromFn.{length-range_with_len, get_or-range_with_len}
use Rattle.std.proofs.lemmas.List.Kept.{IsStrictlyIncreasing-filter}
use Rattle.gr_base.proofs.General.{range-more}
use Rattle.gr_base.specs.Trees.{is_among}

-- the numbers of a range that pass a test, with one number more
filter-more : (p : ℕ → Bool) (n : ℕ) → filter p (range_with_len 0 (n + 1)) ≡ filter p (range_with_len 0 n) ++ cond (p n) (n ∷ []) []
filter-more p n =
    let e : 0 + n ≡ n = omega arith in
    ap (filter p) (range-more 0 n ∙ ap (λ (k : ℕ). range_with_len 0 n ++ k ∷ []) e) ∙ filter-append p (range_with_len 0 n) (n ∷ [])

pub filter-passes : (p : ℕ → Bool) (n : ℕ) (xs new : List ℕ) → xs ≡ filter p (range_with_len 0 n) → p n ≡ true → new ≡ xs ++ n ∷ [] → new ≡ filter p (range_with_len 0 (n + 1))
filter-passes p n xs new is passes more =
    more ∙ ap (λ (ys : List ℕ). ys ++ n ∷ []) is ∙ sym (filter-more p n ∙ ap (λ (b : Bool). filter p (range_with_len 0 n) ++ cond b (n ∷ []) []) passes)

pub filter-fails : (p : ℕ → Bool) (n : ℕ) (xs : List ℕ) → xs ≡ filter p (range_with_len 0 n) → p n ≡ false → xs ≡ filter p (range_with_len 0 (n + 1))
filter-fails p n xs is fails =
    is ∙ sym (filter-more p n ∙ ap (λ (b : Bool). filter p (range_with_len 0 n) ++ cond b (n ∷ []) []) fails ∙ append-nil (filter p (range_with_len 0 n)))

-- two tests that agree on a range pass the same numbers of it
pub filter-same : (p q : ℕ → Bool) (a n : ℕ) → ((k : ℕ) → a ≤ k → k < a + n → p k ≡ q k) → filter p (range_with_len a n) ≡ filter q (range_with_len a n)
filter-same p q a zero same = refl
filter-same p q a (suc n) same =
    let rest = filter-same p q (a + 1) n (λ k low high. same k (omega arith) (omega arith)) in
    let first = same a (omega arith) (omega arith) in
    ap (λ (b : Bool). cond b (a ∷ filter p (range_with_len (a + 1) n)) (filter p (range_with_len (a + 1) n))) first
    ∙ ap (λ (ks : List ℕ). cond (q a) (a ∷ ks) ks) rest

-- they rise, and are of the range
pub filter-rises : (p : ℕ → Bool) (n : ℕ) → IsStrictlyIncreasing (filter p (range_with_len 0 n))
filter-rises p n =
    IsStrictlyIncreasing-filter p (range_with_len 0 n)
    (λ k below.
    let long = length-range_with_len 0 n in
    let low = get_or-range_with_len 0 n k 0 (omega (arith, below, long)) in
    let high = get_or-range_with_len 0 n (k + 1) 0 (omega (arith, below, long)) in
    omega (arith, low, high))

pub filter-below : (p : ℕ → Bool) (n : ℕ) → All (λ k. k < n) (filter p (range_with_len 0 n))
filter-below p n =
    All-filter p (λ (k : ℕ). k < n) (range_with_len 0 n)
    (λ k d below.
    let long = length-range_with_len 0 n in
    let at = get_or-range_with_len 0 n k d (omega (arith, below, long)) in
    omega (arith, at, below, long))

-- they have each number of the range that passes the test, and no other
filter-lacks : (p : ℕ → Bool) (a n m : ℕ) → m < a → is_among (filter p (range_with_len a n)) m ≡ false
filter-lacks p a zero m low = refl
filter-lacks p a (suc n) m low =
    let rest = filter-lacks p (a + 1) n m (omega arith) in
    let other : (a == m) ≡ false = grind (arith, nat_tests) in
    elim (cases_Bool (p a)) [
      | inl passes ↦ rw (passes, other) rest
      | inr fails ↦ rw fails rest
    ]

pub filter-has : (p : ℕ → Bool) (a n m : ℕ) → a ≤ m → m < a + n → is_among (filter p (range_with_len a n)) m ≡ p m
filter-has p a zero m low high = absurd (omega arith)
filter-has p a (suc n) m low high =
    elim (cases_eq a m) [
      | inl same ↦
          let here : (a == m) ≡ true = grind (arith, nat_tests) in
          let rest = filter-lacks p (a + 1) n m (omega arith) in
          elim (cases_Bool (p a)) [
            | inl passes ↦ rw (passes, here) (sym (ap p (sym same) ∙ passes))
            | inr fails ↦ rw fails (rest ∙ sym (ap p (sym same) ∙ fails))
          ]
      | inr apart ↦
          let other : (a == m) ≡ false = grind (arith, nat_tests) in
          let rest = filter-has p (a + 1) n m (omega (arith, low, apart)) (omega arith) in
          elim (cases_Bool (p a)) [
            | inl passes ↦ rw (passes, other) rest
            | inr fails ↦ rw fails rest
          ]
    ]
