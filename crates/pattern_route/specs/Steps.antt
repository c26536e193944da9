-- Steps from one number to another.
use Rattle.std.specs.Prelude.{ℕ, zero, suc, ◌+◌, ◌-◌, List, [], ◌∷◌, nat_lt, if◌then◌else◌}
use Rattle.gr_base.specs.Grid.{gap}

-- one step from a number to another
abbrev pub toward : ℕ → ℕ → ℕ
toward from to = if nat_lt from to then from + 1 else from - 1

-- so many numbers, step by step from one to another, without the first
unfoldable pub steps_toward : ℕ → ℕ → ℕ → List ℕ
steps_toward zero from to = []
steps_toward (suc n) from to = toward from to ∷ steps_toward n (toward from to) to

-- the numbers after one, step by step, up to and with another
abbrev pub onward : ℕ → ℕ → List ℕ
onward from to = steps_toward (gap from to) from to
