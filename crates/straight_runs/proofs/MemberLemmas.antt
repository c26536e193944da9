-- The search in a rising list of low ends.
use Rattle.std.proofs.Common.{◌≡◌, ℕ, ◌<◌, ◌≤◌, inl, inr, true, ◌==◌, List, length, get_or, Result, Ok, Err, sym, ap, arith}
use Rattle.std.specs.List.Sorted.{IsStrictlyIncreasing}
use Rattle.std.specs.Result.{MatchResult, is_ok}
use Rattle.std.proofs.lemmas.Bool.{cases_lt, cases_eq}
use Rattle.std.proofs.lemmas.Bool.Decides.{nat_tests}
use Rattle.std.proofs.lemmas.Grind.{get_or_default_zero}
use Rattle.std.proofs.lemmas.List.Folds.{list_any_at, list_any_none}
use Rattle.std.proofs.lemmas.List.Kept.{AllPairs-from_increasing}
use Rattle.straight_runs.specs.Lows.{is_low}

pub rises : (xs : List ℕ) → IsStrictlyIncreasing xs → (i j : ℕ) → i ≤ j → j < length xs → get_or xs i 0 ≤ get_or xs j 0
rises xs up i j le below =
    elim (cases_eq i j) [
      | inl same ↦ let e : get_or xs i 0 ≡ get_or xs j 0 = ap (λ (k : ℕ). get_or xs k 0) same in omega arith
      | inr other ↦ let less = AllPairs-from_increasing xs up i j 0 (omega arith) below in omega arith
    ]

-- a binary search of a rising list tells whether the number is in it
pub found : (xs : List ℕ) (x : ℕ) (r : Result ℕ ℕ) →
    MatchResult r (λ i. (i < length xs) × (get_or xs i 0 ≡ x))
    (λ i. (i ≤ length xs) × ((k : ℕ) → k < i → get_or xs k 0 < x) × ((k : ℕ) → i ≤ k → k < length xs → x < get_or xs k 0)) →
    is_ok r ≡ is_low xs x
found xs x (Ok i) h =
    let e = h.1 in
    let test : (x == get_or xs i 0) ≡ true = grind (arith, nat_tests) in
    sym (list_any_at (λ low. x == low) xs i 0 h.0 test)
found xs x (Err i) h =
    sym (list_any_none (λ low. x == low) xs (λ k d below.
    let e = get_or_default_zero xs k d below in
    elim (cases_lt k i) [
      | inl less ↦ let b = h.1 k less in grind (arith, nat_tests)
      | inr more ↦ let b = h.2 k more below in grind (arith, nat_tests)
    ]))
