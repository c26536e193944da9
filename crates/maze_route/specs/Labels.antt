-- Labels of cells, as a list of numbers holds them.
use Rattle.std.specs.Prelude.{ℕ, Bool, true, ◌==◌, nat_lt, List, Option, Some, None, slice_get, if◌then◌else◌}

-- what stands for no label
abbrev pub unreached : ℕ
unreached = 18446744073709551615

abbrev pub label_from : Option ℕ → Option ℕ
label_from None = None
label_from (Some cost) = if cost == unreached then None else Some cost

-- the label of a cell, if it has one
abbrev pub label_at : List ℕ → ℕ → Option ℕ
label_at costs cell = label_from (slice_get costs cell)

-- the cost is less than the label, or there is none
abbrev pub is_lower : Option ℕ → ℕ → Bool
is_lower None cost = true
is_lower (Some label) cost = nat_lt cost label

-- the labels with one of them changed
abbrev pub relabelled : (ℕ → Option ℕ) → ℕ → ℕ → ℕ → Option ℕ
relabelled label cell cost other = if other == cell then Some cost else label other
