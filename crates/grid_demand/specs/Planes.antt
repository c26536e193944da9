-- Tables of wire edges in planes: the East edges by the numbers of their low ends, then the North edges.
use Rattle.std.specs.Prelude.{ℕ, ◌+◌, ◌-◌, ◌/◌, ◌%◌, ◌==◌, nat_lt, List, map, length, slice_index, slice_index_or, if◌then◌else◌}
use Rattle.std.specs.List.{range_with_len}
use Rattle.gr_base.specs.Grid.{edge_at}
use Rattle.gr_base.specs.Sums.{wire_number}
use Rattle.gr_base.specs.declared.grid.Edge.{Edge}
use Rattle.gr_base.specs.declared.grid.Way.TheVariants.{East, North}

-- where the wire edge with a number stands in a table of so many wire edges
abbrev pub place_of : ℕ → ℕ → ℕ
place_of wires number = (if number % 2 == 0 then 0 else wires / 2) + number / 2

-- the wire edge at a place
abbrev pub edge_placed : ℕ → ℕ → Edge
edge_placed wires place =
    if nat_lt place (wires / 2) then edge_at place East else edge_at (place - wires / 2) North

-- what a table in planes has for each wire edge, by number
abbrev pub by_number : {X : Type 0} → X → List X → List X
by_number blank xs =
    map (λ number. slice_index_or xs (place_of (length xs) number) blank) (range_with_len 0 (length xs))

-- what it has for a wire edge
abbrev pub in_planes : List ℕ → Edge → ℕ
in_planes xs e = slice_index (by_number 0 xs) (wire_number e)
