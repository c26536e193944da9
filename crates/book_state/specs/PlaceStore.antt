-- What is kept of the place of a claim.
use Rattle.std.specs.Prelude.{ℕ, suc, zero, Option, Some, None}

-- the place of a claim by the length of the history's first part that ends with it, where 0 stands for no claim
abbrev pub told : ℕ → Option ℕ
told zero = None
told (suc place) = Some place
