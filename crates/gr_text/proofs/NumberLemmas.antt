-- The value of a number, and the nearest that a u64 or its negative can hold.
use Rattle.std.proofs.Common.{◌≡◌, ℕ, ◌-◌, ◌^◌, min, ◌⊎◌, inl, inr, ℤ, pos, negsuc, ◌≤ℤ◌, List, Option, Some, None, option_map, option_and_then, refl, sym, ap, ◌∙◌, arith}
use Rattle.std.proofs.lemmas.Bool.{cases_lt}
use Rattle.std.proofs.lemmas.Bool.Decides.{nat_tests}
use Rattle.std.proofs.lemmas.Int.{ints}
use Rattle.gr_text.specs.Numbers.{clamped, within, whole_value, number_in}

none_within : (low high z : ℤ) → (z ≤ℤ high → ⊥) ⊎ (low ≤ℤ z → ⊥) → within low high z ≡ None
none_within low high z out = elim out [
  | inl above ↦ grind (arith, ints, nat_tests)
  | inr below ↦ grind (arith, ints, nat_tests)
]

both_without : (low high y z : ℤ) → (y ≤ℤ high → ⊥) ⊎ (low ≤ℤ y → ⊥) → (z ≤ℤ high → ⊥) ⊎ (low ≤ℤ z → ⊥) →
    within low high y ≡ within low high z
both_without low high y z one two = none_within low high y one ∙ sym (none_within low high z two)

-- a range of i64 doesn't tell a number from the nearest that a u64 or its negative can hold
pub within-clamped : (low high z : ℤ) → negsuc (2 ^ 63 - 1) ≤ℤ low → high ≤ℤ pos (2 ^ 63 - 1) → within low high (clamped z) ≡ within low high z
within-clamped low high (pos n) least most =
    elim (cases_lt (2 ^ 64 - 1) n) [
      | inl above ↦
          both_without low high _ _ (inl (λ h. absurd (omega (arith, ints)))) (inl (λ h. absurd (omega (arith, ints))))
      | inr small ↦
          let same : min n (2 ^ 64 - 1) ≡ n = omega arith in
          ap (λ m. within low high (pos m)) same
    ]
within-clamped low high (negsuc n) least most =
    elim (cases_lt (2 ^ 64 - 2) n) [
      | inl above ↦
          both_without low high _ _ (inr (λ h. absurd (omega (arith, ints)))) (inr (λ h. absurd (omega (arith, ints))))
      | inr small ↦
          let same : min n (2 ^ 64 - 2) ≡ n = omega arith in
          ap (λ m. within low high (negsuc m)) same
    ]

none-of : (value : Option ℤ) (next : ℤ → Option ℤ) → option_map clamped value ≡ None → None ≡ option_and_then next value
none-of None next is = refl
none-of (Some z) next is = absurd cc

some-of : (low high n : ℤ) (value : Option ℤ) → negsuc (2 ^ 63 - 1) ≤ℤ low → high ≤ℤ pos (2 ^ 63 - 1) →
    option_map clamped value ≡ Some n → within low high n ≡ option_and_then (within low high) value
some-of low high n None least most is = absurd cc
some-of low high n (Some z) least most is =
    let same : clamped z ≡ n = cc in
    ap (within low high) (sym same) ∙ within-clamped low high z least most

pub number-none : (low high : ℤ) (bytes : List ℕ) → option_map clamped (whole_value bytes) ≡ None → None ≡ number_in low high bytes
unfolding number_in
number-none low high bytes is = none-of (whole_value bytes) (within low high) is

pub number-some : (low high n : ℤ) (bytes : List ℕ) → negsuc (2 ^ 63 - 1) ≤ℤ low → high ≤ℤ pos (2 ^ 63 - 1) →
    option_map clamped (whole_value bytes) ≡ Some n → within low high n ≡ number_in low high bytes
unfolding number_in
number-some low high n bytes least most is = some-of low high n (whole_value bytes) least most is
