-- The numbers that decimal digits write.
use Rattle.std.specs.Prelude.{ℕ, ◌+◌, ◌-◌, ◌*◌, ◌^◌, min, Bool, ◌&&◌, ◌==◌, nat_lt, nat_le, int_le, ℤ, pos, negsuc, neg_ℤ, List, [], ◌∷◌, length, Option, Some, None, option_map, option_and_then, fold, if◌then◌else◌}
use Rattle.std.specs.List.{list_all}

-- a decimal digit, '0' to '9'
abbrev pub is_digit : ℕ → Bool
is_digit byte = nat_le 48 byte && nat_le byte 57

abbrev pub all_digits : List ℕ → Bool
all_digits bytes = list_all is_digit bytes

-- the number that decimal digits write
abbrev pub digits_value : List ℕ → ℕ
digits_value = fold (λ value digit. value * 10 + (digit - 48)) 0

-- the value of one or more decimal digits; leading zeros are fine
unfoldable pub decimal_value : List ℕ → Option ℕ
decimal_value bytes = if nat_lt 0 (length bytes) && all_digits bytes then Some (digits_value bytes) else None

-- the number, if it is at most this great
abbrev pub up_to : ℕ → ℕ → Option ℕ
up_to most n = if nat_le n most then Some n else None

-- the value of one or more decimal digits, if these are at most so many, and it is at most this great
unfoldable pub natural_in : (digits most : ℕ) → List ℕ → Option ℕ
natural_in digits most bytes =
    if nat_le (length bytes) digits then option_and_then (up_to most) (decimal_value bytes) else None

-- the value of a whole number: decimal digits, with or without a '-' in front
abbrev pub whole_value : List ℕ → Option ℤ
whole_value [] = None
whole_value (byte ∷ rest) =
    if byte == 45
    then option_map (λ n. neg_ℤ (pos n)) (decimal_value rest)
    else option_map pos (decimal_value (byte ∷ rest))

-- the value, if it lies in the range
abbrev pub within : ℤ → ℤ → ℤ → Option ℤ
within low high n = if int_le low n && int_le n high then Some n else None

-- the value of a whole number from low to high, both included
unfoldable pub number_in : ℤ → ℤ → List ℕ → Option ℤ
number_in low high bytes = option_and_then (within low high) (whole_value bytes)

-- the value, or the nearest that a u64 or its negative can hold
abbrev pub clamped : ℤ → ℤ
clamped (pos n) = pos (min n (2 ^ 64 - 1))
clamped (negsuc n) = negsuc (min n (2 ^ 64 - 2))
