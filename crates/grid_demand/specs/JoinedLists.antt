-- Numbers that two lists make together.
use Rattle.std.specs.Prelude.{ℕ, ◌+◌, ◌*◌, List, length, map, slice_index}
use Rattle.std.specs.List.{range_with_len}

-- what two lists make, where the second has how many times a unit
abbrev pub together : ℕ → List ℕ → List ℕ → List ℕ
together unit low high =
    map (λ place. slice_index low place + unit * slice_index high place) (range_with_len 0 (length low))
