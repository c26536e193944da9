-- Blocks of a count of things.
use Rattle.std.specs.Prelude.{ℕ, ◌+◌, ◌*◌, min}

-- where a block begins, where the first block begins at a thing and each has so many
abbrev pub block_start : (count from size at : ℕ) → ℕ
block_start count from size at = min count (from + at * size)
