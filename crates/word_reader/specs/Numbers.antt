-- The numbers in words.
use Rattle.std.specs.Prelude.{ℕ, ◌-◌, ◌^◌, ◌&&◌, nat_le, List, Option, Some, None, if◌then◌else◌}
use Rattle.std.specs.Option.{option_and_then}
use Rattle.gr_text.specs.Numbers.{natural_in}

-- the most digits of a number in words
abbrev pub most_digits : ℕ
most_digits = 20

-- the greatest number in words, as a seed may be
abbrev pub most_number : ℕ
most_number = 2 ^ 64 - 1

-- the number, if it is from the least to the most
abbrev pub within : (least most : ℕ) → ℕ → Option ℕ
within least most number = if nat_le least number && nat_le number most then Some number else None

-- the number that a word writes, if it is from the least to the most
abbrev pub number_in : (least most : ℕ) → List ℕ → Option ℕ
number_in least most word = option_and_then (within least most) (natural_in most_digits most_number word)
