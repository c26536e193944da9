-- The numbers that a design can be made of.
use Rattle.std.specs.Prelude.{ℕ, ◌*◌, Bool, ◌&&◌, nat_le, IsTrue}
use Rattle.gr_base.specs.Limits.{most_cells, most_layers}
use Rattle.design_maker.specs.declared.made.Made.{Made}

-- the fewest and the most columns, and rows; the fewest layers are as many
abbrev pub least_side : ℕ
least_side = 2

abbrev pub most_side : ℕ
most_side = 2048

-- the most nets of a made design
abbrev pub most_made_nets : ℕ
most_made_nets = 1000000

-- from the least to the most, both included
abbrev pub is_between : (n least most : ℕ) → Bool
is_between n least most = nat_le least n && nat_le n most

abbrev pub is_made : Made → Bool
is_made made =
    is_between made.columns least_side most_side &&
    is_between made.rows least_side most_side &&
    is_between made.layers least_side most_layers &&
    nat_le (made.columns * made.rows * made.layers) most_cells &&
    nat_le made.nets most_made_nets

-- a design can be made of the numbers
abbrev pub IsMade : Made → Type 0
IsMade made = IsTrue (is_made made)
