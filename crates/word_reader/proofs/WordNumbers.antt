-- The number that a word of digits writes, of any size that fits.
use Rattle.std.proofs.Common.{◌≡◌, ℕ, ◌+◌, ◌-◌, ◌*◌, ◌^◌, ◌<◌, ◌≤◌, Bool, true, false, ◌&&◌, nat_lt, nat_le, List, length, Option, Some, None, Result, Ok, Err, if◌then◌else◌, refl, sym, ap, ◌∙◌, arith, rules}
use Rattle.std.specs.List.{fold}
use Rattle.std.specs.Option.{option_and_then}
use Rattle.std.specs.Result.{result_ok}
use Rattle.std.specs.Str.Parse.{ParsesUnsigned}
use Rattle.std.proofs.lemmas.Bool.Decides.{nat_tests}
use Rattle.std.proofs.lemmas.Str.Parse.{IsDigitsTest, IsNumeralModel, numerals_by_fold, parse_digits}
use Rattle.gr_text.specs.Numbers.{all_digits, decimal_value, digits_value, natural_in, up_to}
use Rattle.word_reader.specs.Numbers.{most_digits, most_number}

tells-digits : IsDigitsTest (λ ds. all_digits ds ≡ true)
tells-digits = search rules

abbrev read_on : ℕ → List ℕ → ℕ
read_on = fold (λ value digit. value * 10 + (digit - 48))

own : IsNumeralModel (λ ds. all_digits ds ≡ true) (read_on 0)
own = numerals_by_fold _ tells-digits read_on (search rules)

pub too-long : (word : List ℕ) → most_digits < length word → None ≡ natural_in most_digits most_number word
unfolding natural_in
too-long word long =
    let test : nat_le (length word) most_digits ≡ false = grind (arith, nat_tests) in
    rw test refl

pub no-digits : (word : List ℕ) → all_digits word ≡ false → None ≡ natural_in most_digits most_number word
unfolding natural_in decimal_value
no-digits word other = by (nat_le (length word) most_digits) (nat_lt 0 (length word))
  where
    by : (a b : Bool) → None ≡ (if a then option_and_then (up_to most_number) (if b && all_digits word then Some (digits_value word) else None) else None)
    by false b = refl
    by true false = refl
    by true true = rw other refl

module _ (word : List ℕ) (few : length word ≤ most_digits) (digits : all_digits word ≡ true) where
  -- the number, where there is a digit and it fits
  abbrev by_tests : (some fits : Bool) → Option ℕ
  by_tests some fits = if some then (if fits then Some (digits_value word) else None) else None

  read : natural_in most_digits most_number word ≡ by_tests (nat_lt 0 (length word)) (nat_le (digits_value word) most_number)
  unfolding natural_in decimal_value
  read =
      let test : nat_le (length word) most_digits ≡ true = grind (arith, nat_tests) in
      by (nat_le (length word) most_digits) (nat_lt 0 (length word)) (all_digits word) test digits
    where
      by : (a b d : Bool) → a ≡ true → d ≡ true →
          (if a then option_and_then (up_to most_number) (if b && d then Some (digits_value word) else None) else None) ≡
          by_tests b (nat_le (digits_value word) most_number)
      by true true true p q = refl
      by true false d p q = refl
      by true true false p q = absurd cc
      by false b d p q = absurd cc

  -- what `parse` answers
  pub word-number : {E : Type 0} (r : Result ℕ E) → ParsesUnsigned 64 10 word r → result_ok r ≡ natural_in most_digits most_number word
  word-number {E = E} (Ok n) parses =
      let known = parse_digits own {E = E} 64 word (Ok n) parses digits in
      let long = known.0.0 in
      let small = known.0.1 in
      let some : nat_lt 0 (length word) ≡ true = grind (arith, nat_tests) in
      let fits : nat_le (digits_value word) most_number ≡ true = let most : digits_value word ≤ most_number = omega arith in grind (arith, nat_tests) in
      let whole : by_tests (nat_lt 0 (length word)) (nat_le (digits_value word) most_number) ≡ Some (digits_value word) = rw (some, fits) refl in
      ap (λ (m : ℕ). Some m) known.1 ∙ sym (read ∙ whole)
  word-number {E = E} (Err e) parses =
      let none = parse_digits own {E = E} 64 word (Err e) parses digits in
      by (nat_lt 0 (length word)) (nat_le (digits_value word) most_number) refl refl none ∙ sym read
    where
      by : (a b : Bool) → nat_lt 0 (length word) ≡ a → nat_le (digits_value word) most_number ≡ b →
          ((0 < length word) × (digits_value word < 2 ^ 64) → ⊥) → None ≡ by_tests a b
      by false b p q none = refl
      by true false p q none = refl
      by true true p q none =
          let some : 0 < length word = grind (arith, nat_tests) in
          let fits : digits_value word ≤ most_number = grind (arith, nat_tests) in
          absurd (none (some, omega arith))
