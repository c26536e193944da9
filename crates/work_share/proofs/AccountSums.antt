-- Sums over the accounts of a deque.
use Rattle.std.proofs.Common.{◌≡◌, ◌≢◌, ℕ, zero, suc, ◌+◌, ◌≤◌, Bool, true, List, [], ◌∷◌, ◌++◌, length, set, cond, sum_by, count_by, sym, refl, ap, arith}
use Rattle.std.proofs.lemmas.List.Sums.{sum_by-cons, sum_by-append}
use mathlib.Core.Option.{some, some-injective, some-ne-none}
use lib.ListN.{get_elem?}

pub count-append : (test : ℕ → Bool) (xs ys : List ℕ) → count_by test (xs ++ ys) ≡ count_by test xs + count_by test ys
count-append test xs ys = sum_by-append (λ (n : ℕ). cond (test n) 1 0) xs ys

-- a count of all
pub count-all : (xs : List ℕ) → count_by (λ n. true) xs ≡ length xs
count-all [] = refl
count-all (x ∷ xs) =
    let rest = count-all xs in
    let all = sum_by-cons (λ (n : ℕ). 1) x xs in
    omega (arith, rest, all)

-- a list of which no part by a test is greater than another's is no longer than that
pub count-lengths : (xs ys : List ℕ) → ((test : ℕ → Bool) → count_by test xs ≤ count_by test ys) → length xs ≤ length ys
count-lengths xs ys fewer =
    let all = fewer (λ n. true) in
    let left = count-all xs in
    let right = count-all ys in
    omega (arith, all, left, right)

module _ {X : Type 0} (f : X → ℕ) where
  -- a sum after one change
  pub sum-set : (xs : List X) (at : ℕ) (x y : X) → get_elem? xs at ≡ some x → sum_by f (set xs at y) + f x ≡ sum_by f xs + f y
  sum-set [] at x y there = absurd (some-ne-none x (sym there))
  sum-set (z ∷ zs) zero x y there =
      let is : f z ≡ f x = ap f (some-injective z x there) in
      let new = sum_by-cons f y zs in
      let old = sum_by-cons f z zs in
      omega (arith, is, new, old)
  sum-set (z ∷ zs) (suc at) x y there =
      let rest = sum-set zs at x y there in
      let new = sum_by-cons f z (set zs at y) in
      let old = sum_by-cons f z zs in
      omega (arith, rest, new, old)

  pub one-within : (xs : List X) (at : ℕ) (x : X) → get_elem? xs at ≡ some x → f x ≤ sum_by f xs
  one-within [] at x there = absurd (some-ne-none x (sym there))
  one-within (z ∷ zs) zero x there =
      let is : f z ≡ f x = ap f (some-injective z x there) in
      let all = sum_by-cons f z zs in
      omega (arith, is, all)
  one-within (z ∷ zs) (suc at) x there =
      let rest = one-within zs at x there in
      let all = sum_by-cons f z zs in
      omega (arith, rest, all)

  pub two-within : (xs : List X) (at other : ℕ) (x y : X) → other ≢ at → get_elem? xs at ≡ some x → get_elem? xs other ≡ some y → f x + f y ≤ sum_by f xs
  two-within [] at other x y apart there too = absurd (some-ne-none x (sym there))
  two-within (z ∷ zs) zero zero x y apart there too = absurd (apart refl)
  two-within (z ∷ zs) zero (suc other) x y apart there too =
      let is : f z ≡ f x = ap f (some-injective z x there) in
      let rest = one-within zs other y too in
      let all = sum_by-cons f z zs in
      omega (arith, is, rest, all)
  two-within (z ∷ zs) (suc at) zero x y apart there too =
      let is : f z ≡ f y = ap f (some-injective z y too) in
      let rest = one-within zs at x there in
      let all = sum_by-cons f z zs in
      omega (arith, is, rest, all)
  two-within (z ∷ zs) (suc at) (suc other) x y apart there too =
      let rest = two-within zs at other x y (λ same. apart (ap suc same)) there too in
      let all = sum_by-cons f z zs in
      omega (arith, rest, all)
