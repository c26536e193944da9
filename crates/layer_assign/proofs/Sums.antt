-- Sums over the numbers below one.
use Rattle.std.proofs.Common.{◌≡◌, ◌≢◌, ℕ, suc, zero, ◌+◌, ◌<◌, ◌≤◌, inl, inr, List, [], ◌∷◌, ◌++◌, refl, sym, ap, ◌∙◌, arith}
use Rattle.std.proofs.lemmas.Bool.{cases_eq}
use Rattle.std.proofs.lemmas.List.Sums.{sum_by_push}
use Rattle.std.specs.List.{range_with_len, sum_by}

-- the sum of f over the numbers below one
abbrev pub sums : (ℕ → ℕ) → ℕ → ℕ
sums f zero = 0
sums f (suc i) = sums f i + f i

pub range-push : (a n : ℕ) → range_with_len a (suc n) ≡ range_with_len a n ++ (a + n) ∷ []
range-push a zero = let e : a ≡ a + 0 = omega arith in ap (λ (k : ℕ). k ∷ []) e
range-push a (suc n) =
    let e : a + 1 + n ≡ a + suc n = omega arith in
    ap (λ (ks : List ℕ). a ∷ ks) (range-push (a + 1) n ∙ ap (λ (k : ℕ). range_with_len (a + 1) n ++ k ∷ []) e)

-- the numbers below suc n
pub range-more : (n : ℕ) → range_with_len 0 (suc n) ≡ range_with_len 0 n ++ n ∷ []
range-more n = let e : 0 + n ≡ n = omega arith in range-push 0 n ∙ ap (λ (k : ℕ). range_with_len 0 n ++ k ∷ []) e

pub sums-range : (f : ℕ → ℕ) (n : ℕ) → sum_by f (range_with_len 0 n) ≡ sums f n
sums-range f zero = refl
sums-range f (suc n) =
    ap (λ (ks : List ℕ). sum_by f ks) (range-more n) ∙ sum_by_push f (range_with_len 0 n) n
    ∙ ap (λ (k : ℕ). k + f n) (sums-range f n)

pub sums-same : (f h : ℕ → ℕ) (n : ℕ) → ((u : ℕ) → u < n → f u ≡ h u) → sums f n ≡ sums h n
sums-same f h zero each = refl
sums-same f h (suc n) each =
    let rest = sums-same f h n (λ u below. each u (omega arith)) in
    let last = each n (omega arith) in
    omega (arith, rest, last)

-- where f and h differ at one number alone
pub sums-changed : (f h : ℕ → ℕ) (n p : ℕ) → p < n → ((u : ℕ) → u < n → u ≢ p → f u ≡ h u) → sums f n + h p ≡ sums h n + f p
sums-changed f h zero p below each = absurd (omega arith)
sums-changed f h (suc n) p below each =
    elim (cases_eq p n) [
      | inl same ↦
          let rest = sums-same f h n (λ u lt. each u (omega arith) (λ e. omega arith)) in
          let at : f p ≡ f n = ap f same in
          let to : h p ≡ h n = ap h same in
          omega (arith, rest, at, to)
      | inr other ↦
          let rest = sums-changed f h n p (omega arith) (λ u lt apart. each u (omega arith) apart) in
          let last = each n (omega arith) (λ e. other (sym e)) in
          omega (arith, rest, last)
    ]

-- one of the numbers that are added is at most the sum
pub sums-at : (f : ℕ → ℕ) (n p : ℕ) → p < n → f p ≤ sums f n
sums-at f zero p below = absurd (omega arith)
sums-at f (suc n) p below =
    elim (cases_eq p n) [
      | inl same ↦ let at : f p ≡ f n = ap f same in omega (arith, at)
      | inr other ↦ let rest = sums-at f n p (omega arith) in omega (arith, rest)
    ]
