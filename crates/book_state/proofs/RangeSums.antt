-- Sums over ranges of numbers.
use Rattle.std.proofs.Common.{◌≡◌, ◌⊎◌, ℕ, suc, zero, ◌+◌, ◌*◌, ◌<◌, ◌≤◌, inl, inr, Bool, cond, [], ◌∷◌, ◌++◌, sum_by, refl, sym, ap, ◌∙◌, arith}
use Rattle.std.specs.List.{count_by, range_with_len}
use Rattle.gr_base.proofs.General.{range-more}
use Rattle.std.proofs.lemmas.List.Sums.{sum_by-cons, sum_by_push}

-- sums of two functions that agree on a range
pub sum-same : (f g : ℕ → ℕ) (a n : ℕ) → ((k : ℕ) → a ≤ k → k < a + n → f k ≡ g k) → sum_by f (range_with_len a n) ≡ sum_by g (range_with_len a n)
sum-same f g a zero same = refl
sum-same f g a (suc n) same =
    let rest = sum-same f g (a + 1) n (λ k low high. same k (omega arith) (omega arith)) in
    let first = same a (omega arith) (omega arith) in
    sum_by-cons f a (range_with_len (a + 1) n) ∙ omega (arith, rest, first) ∙ sym (sum_by-cons g a (range_with_len (a + 1) n))

at_or_above : (a m : ℕ) → a ≤ m → (a ≡ m) ⊎ (a < m)
at_or_above a m low = grind arith

-- sums of two functions that agree on a range but at one number
pub sum-change : (f g : ℕ → ℕ) (a n m : ℕ) → a ≤ m → m < a + n → ((k : ℕ) → (k ≡ m → ⊥) → f k ≡ g k) →
    sum_by f (range_with_len a n) + g m ≡ sum_by g (range_with_len a n) + f m
sum-change f g a zero m low high same = absurd (omega arith)
sum-change f g a (suc n) m low high same =
    let all_f = sum_by-cons f a (range_with_len (a + 1) n) in
    let all_g = sum_by-cons g a (range_with_len (a + 1) n) in
    elim (at_or_above a m low) [
      | inl here ↦
          let rest = sum-same f g (a + 1) n (λ k more less. same k (λ is. absurd (omega arith))) in
          let one : f m ≡ f a = ap f (sym here) in
          let other : g m ≡ g a = ap g (sym here) in
          omega (arith, all_f, all_g, rest, one, other)
      | inr above ↦
          let rest = sum-change f g (a + 1) n m (omega arith) (omega arith) same in
          let first = same a (λ is. absurd (omega arith)) in
          omega (arith, all_f, all_g, rest, first)
    ]

-- a sum of small numbers
pub sum-most : (f : ℕ → ℕ) (a n most : ℕ) → ((k : ℕ) → f k ≤ most) → sum_by f (range_with_len a n) ≤ n * most
sum-most f a zero most small = omega arith
sum-most f a (suc n) most small =
    let rest = sum-most f (a + 1) n most small in
    let first = small a in
    let all = sum_by-cons f a (range_with_len (a + 1) n) in
    let more : suc n * most ≡ n * most + most = grind arith in
    omega (arith, rest, first, all, more)

-- one of the numbers of a sum
pub sum-part : (f : ℕ → ℕ) (a n m : ℕ) → a ≤ m → m < a + n → f m ≤ sum_by f (range_with_len a n)
sum-part f a zero m low high = absurd (omega arith)
sum-part f a (suc n) m low high =
    let all = sum_by-cons f a (range_with_len (a + 1) n) in
    elim (at_or_above a m low) [
      | inl here ↦ let one : f m ≡ f a = ap f (sym here) in omega (arith, all, one)
      | inr above ↦ let rest = sum-part f (a + 1) n m (omega arith) (omega arith) in omega (arith, all, rest)
    ]

-- counts of two tests that agree on a range
pub count-same : (p q : ℕ → Bool) (a n : ℕ) → ((k : ℕ) → a ≤ k → k < a + n → p k ≡ q k) → count_by p (range_with_len a n) ≡ count_by q (range_with_len a n)
count-same p q a n same =
    sum-same (λ (k : ℕ). cond (p k) 1 0) (λ (k : ℕ). cond (q k) 1 0) a n (λ k low high. ap (λ (b : Bool). cond {A = ℕ} b 1 0) (same k low high))

pub count-more : (p : ℕ → Bool) (n : ℕ) → count_by p (range_with_len 0 (n + 1)) ≡ count_by p (range_with_len 0 n) + cond (p n) 1 0
count-more p n =
    let e : 0 + n ≡ n = omega arith in
    ap (count_by p) (range-more 0 n ∙ ap (λ (k : ℕ). range_with_len 0 n ++ k ∷ []) e) ∙ sum_by_push (λ (k : ℕ). cond {A = ℕ} (p k) 1 0) (range_with_len 0 n) n
