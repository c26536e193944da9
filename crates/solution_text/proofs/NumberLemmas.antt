-- A written number is read back, and has neither blanks nor marks.
use Rattle.std.specs.Prelude.{nat_abs}
use Rattle.std.proofs.Common.{◌≡◌, ℕ, suc, ◌+◌, ◌-◌, ◌*◌, ◌^◌, ◌<◌, ◌≤◌, Bool, true, false, ◌==◌, nat_lt, nat_le, ℤ, pos, negsuc, neg_ℤ, List, [], ◌∷◌, length, Some, option_map, refl, ap, arith, rules}
use Rattle.std.specs.List.{fold}
use Rattle.std.specs.Fmt.{decimal, signed_decimal}
use Rattle.std.proofs.lemmas.Bool.{and_parts}
use Rattle.std.proofs.lemmas.Bool.Decides.{nat_tests}
use Rattle.std.proofs.lemmas.Fmt.{digits_decimal, digits_value-decimal, decimal_nonempty}
use Rattle.std.proofs.lemmas.Str.Parse.{IsDigitsTest, IsNumeralModel, numerals_by_fold}
use Rattle.gr_base.specs.Limits.{most_id}
use Rattle.gr_text.specs.Tokens.{is_blank}
use Rattle.solution_text.specs.Grammar.{is_mark}
use Rattle.solution_text.proofs.TokenLemmas.{NonePass}
use Rattle.gr_text.specs.Numbers.{is_digit, all_digits, decimal_value, whole_value, number_in}

tells-digits : IsDigitsTest (λ ds. all_digits ds ≡ true)
tells-digits = search rules

abbrev read_on : ℕ → List ℕ → ℕ
read_on = fold (λ value digit. value * 10 + (digit - 48))

own : IsNumeralModel (λ ds. all_digits ds ≡ true) (read_on 0)
own = numerals_by_fold _ tells-digits read_on (search rules)

pub all-digits : (n : ℕ) → n < 2 ^ 64 → all_digits (decimal n) ≡ true
all-digits n small = digits_decimal own n small

pub decimal-back : (n : ℕ) → n < 2 ^ 64 → decimal_value (decimal n) ≡ Some n
unfolding decimal_value
decimal-back n small =
    let long : nat_lt 0 (length (decimal n)) ≡ true = let e = decimal_nonempty n small in grind (arith, nat_tests) in
    rw (long, all-digits n small, digits_value-decimal own n small) refl

whole-digits : (ds : List ℕ) (n : ℕ) → 0 < length ds → all_digits ds ≡ true → decimal_value ds ≡ Some n → whole_value ds ≡ Some (pos n)
whole-digits [] n some digits is = absurd (omega arith)
whole-digits (byte ∷ rest) n some digits is =
    let digit = (and_parts (is_digit byte) (all_digits rest) digits).0 in
    let plain : (byte == 45) ≡ false = grind (arith, nat_tests) in
    rw plain (ap (option_map pos) is)

-- a written number is read back
pub natural-back : (n : ℕ) → n < 2 ^ 64 → whole_value (decimal n) ≡ Some (pos n)
natural-back n small = whole-digits (decimal n) n (decimal_nonempty n small) (all-digits n small) (decimal-back n small)

pub whole-back : (z : ℤ) → nat_abs z < 2 ^ 64 → whole_value (signed_decimal z) ≡ Some z
whole-back (pos n) small = natural-back n small
whole-back (negsuc n) small = ap (option_map (λ (m : ℕ). neg_ℤ (pos m))) (decimal-back (suc n) small)

-- neither blanks nor marks stand in a number
digits-clear : (test : ℕ → Bool) → ((byte : ℕ) → is_digit byte ≡ true → test byte ≡ false) → (ds : List ℕ) → all_digits ds ≡ true → NonePass test ds
digits-clear test other [] h = tt
digits-clear test other (byte ∷ rest) h =
    let parts = and_parts (is_digit byte) (all_digits rest) h in
    (other byte parts.0, digits-clear test other rest parts.1)

digit-blank : (byte : ℕ) → is_digit byte ≡ true → is_blank byte ≡ false
digit-blank byte h = grind (arith, nat_tests)

digit-mark : (byte : ℕ) → is_digit byte ≡ true → is_mark byte ≡ false
digit-mark byte h = grind (arith, nat_tests)

pub natural-blank : (n : ℕ) → n < 2 ^ 64 → NonePass is_blank (decimal n)
natural-blank n small = digits-clear is_blank digit-blank (decimal n) (all-digits n small)

pub natural-mark : (n : ℕ) → n < 2 ^ 64 → NonePass is_mark (decimal n)
natural-mark n small = digits-clear is_mark digit-mark (decimal n) (all-digits n small)

pub whole-blank : (z : ℤ) → nat_abs z < 2 ^ 64 → NonePass is_blank (signed_decimal z)
whole-blank (pos n) small = natural-blank n small
whole-blank (negsuc n) small = (refl, natural-blank (suc n) small)

pub whole-mark : (z : ℤ) → nat_abs z < 2 ^ 64 → NonePass is_mark (signed_decimal z)
whole-mark (pos n) small = natural-mark n small
whole-mark (negsuc n) small = (refl, natural-mark (suc n) small)

-- an id is read back
pub id-back : (id : ℕ) → id ≤ most_id → number_in (pos 0) (pos most_id) (decimal id) ≡ Some (pos id)
unfolding number_in
id-back id small =
    let few : nat_le id most_id ≡ true = grind (arith, nat_tests) in
    let some : nat_le 0 id ≡ true = grind (arith, nat_tests) in
    rw (natural-back id (omega arith)) (rw (some, few) refl)
