-- Sets of numbers, in the order in which they came.
use Rattle.std.specs.Prelude.{ℕ, Bool, ◌==◌, List, ◌∷◌, [], ◌++◌, if◌then◌else◌}
use Rattle.std.specs.List.{list_any}

-- a set of numbers below a bound, in the order in which they came
pub record NumberSetView : Type 0 where
  pub bound : ℕ
  pub numbers : List ℕ

abbrev pub has_number : List ℕ → ℕ → Bool
has_number numbers n = list_any (λ other. n == other) numbers

abbrev pub empty_set : ℕ → NumberSetView
empty_set bound = record { bound = bound; numbers = [] }

-- the number comes behind the others, unless it is one of them
abbrev pub with_number : List ℕ → ℕ → List ℕ
with_number numbers n = if has_number numbers n then numbers else numbers ++ n ∷ []

abbrev pub set_with : NumberSetView → ℕ → NumberSetView
set_with s n = record { bound = s.bound; numbers = with_number s.numbers n }
