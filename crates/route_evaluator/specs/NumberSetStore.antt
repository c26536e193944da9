-- How a set of numbers is kept: a list, and a mark for each of its numbers.
use Rattle.std.specs.Prelude.{◌≡◌, ◌==◌, ℕ, ◌+◌, ◌<◌, ◌≤◌, Bool, false, not, List, All, length, count_by, slice_index_or}
use Rattle.route_evaluator.specs.NumberSets.{NumberSetView, has_number}
use Rattle.route_evaluator.specs.declared.number_set.NumberSet.TheInside.{Inside}

-- what the fields say
abbrev pub seen : Inside → NumberSetView
seen s = record { bound = s.bound; numbers = s.numbers.items }

-- each number of the list is below the bound and stands there once, and just these have a mark
pub record AreMarked (bound : ℕ) (numbers : List ℕ) (marks : List Bool) : Type 0 where
  pub long : length marks ≡ bound
  pub below : All (λ n. n < bound) numbers
  pub marked : (n : ℕ) → slice_index_or marks n false ≡ has_number numbers n
  pub once : (n : ℕ) → count_by (λ other. n == other) numbers ≤ 1
  pub few : count_by not marks + length numbers ≡ bound

abbrev pub Keeps : Inside → Type 0
Keeps s = AreMarked s.bound s.numbers.items s.marks.items
