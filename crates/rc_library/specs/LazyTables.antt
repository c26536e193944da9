-- Tables whose values are all alike until one is set.
use Rattle.std.specs.Prelude.{ℕ, List, replicate, Option, Some, None}

-- the values that are stored, or the same one at so many places
abbrev pub filled : {T : Type 0} → ℕ → T → Option (List T) → List T
filled count fill None = replicate count fill
filled count fill (Some values) = values
