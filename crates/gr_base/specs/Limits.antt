-- The limits of designs and of orders.
use Rattle.std.specs.Prelude.{ℕ, Bool, ◌*◌, ◌&&◌, nat_lt, nat_le}

-- how many layers and how many cells a grid may have
abbrev pub most_layers : ℕ
most_layers = 16

abbrev pub most_cells : ℕ
most_cells = 8388608

-- how many nets, pins of all nets together, and adjustments a design may have
abbrev pub most_nets : ℕ
most_nets = 4194304

abbrev pub most_pins : ℕ
most_pins = 16777216

abbrev pub most_adjustments : ℕ
most_adjustments = 16777216

-- the most pins of a net that is routed
abbrev pub most_routed_pins : ℕ
most_routed_pins = 1000

-- the greatest id of a net, and the greatest number that a text may write for a column, a row or a layer
abbrev pub most_id : ℕ
most_id = 2147483647

-- the greatest capacity, and the greatest width or spacing, in units of width
abbrev pub most_capacity : ℕ
most_capacity = 1000000

abbrev pub most_width : ℕ
most_width = 1000

-- the greatest width or height of a tile
abbrev pub most_tile : ℕ
most_tile = 1000000

-- the greatest coordinate of the lower left corner, and of anything else, either way
abbrev pub most_lower : ℕ
most_lower = 1099511627776

abbrev pub most_coordinate : ℕ
most_coordinate = 17592186044416

-- the most bytes of a text
abbrev pub most_bytes : ℕ
most_bytes = 2147483648

-- the most marks of an edge
abbrev pub most_marks : ℕ
most_marks = 1048576

-- the most rounds that may be asked for
abbrev pub most_rounds : ℕ
most_rounds = 64

-- the most workers that may be asked for
abbrev pub most_workers : ℕ
most_workers = 16

-- the numbers of columns, rows and layers that make a grid
abbrev pub is_grid : ℕ → ℕ → ℕ → Bool
is_grid columns rows layers =
    nat_lt 0 columns && nat_lt 0 rows && nat_lt 0 layers &&
    nat_le layers most_layers && nat_le (columns * rows * layers) most_cells
