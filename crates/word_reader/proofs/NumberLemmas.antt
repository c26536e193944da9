-- Numbers that are read from words are in range.
use Rattle.std.proofs.Common.{◌≡◌, ℕ, ◌≤◌, Bool, true, false, nat_le, List, length, Option, Some, None, if◌then◌else◌, refl, arith}
use Rattle.std.proofs.lemmas.Bool.Decides.{nat_tests}
use Rattle.std.proofs.lemmas.Option.{none-some, same_Some}
use Rattle.std.specs.Option.{option_and_then}
use Rattle.gr_text.specs.Numbers.{decimal_value, up_to, natural_in}

-- a number that is read is at most the most that is asked for
pub natural-most : (digits most : ℕ) (bytes : List ℕ) (n : ℕ) → natural_in digits most bytes ≡ Some n → n ≤ most
unfolding natural_in
natural-most digits most bytes n is = by (nat_le (length bytes) digits) (decimal_value bytes) is
  where
    small : (v : ℕ) (b : Bool) → nat_le v most ≡ b → (if b then Some v else None) ≡ Some n → n ≤ most
    small v true fits is = let e = same_Some v n is in grind (arith, nat_tests)
    small v false fits is = absurd (none-some n is)

    by : (b : Bool) (o : Option ℕ) → (if b then option_and_then (up_to most) o else None) ≡ Some n → n ≤ most
    by false o is = absurd (none-some n is)
    by true None is = absurd (none-some n is)
    by true (Some v) is = small v (nat_le v most) refl is
