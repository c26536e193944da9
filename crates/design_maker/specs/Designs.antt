-- The design that a made text says.
use Rattle.std.specs.Prelude.{◌≡◌, ℕ, List, [], ◌++◌, length, map, pos, Some, Ok, codes}
use Rattle.std.specs.Fmt.{decimal}
use Rattle.std.specs.List.{range_with_len}
use Rattle.gr_base.specs.Designs.{DesignView, pins_of}
use Rattle.gr_base.specs.Grid.{number_of}
use Rattle.gr_base.specs.declared.frame.Frame.{Frame}
use Rattle.gr_base.specs.declared.frame.Net.{Net}
use Rattle.gr_base.specs.declared.grid.Shape.{Shape}
use Rattle.ispd_reader.specs.Header.{shape_of, padded, stack_of}
use Rattle.ispd_reader.specs.DesignText.{design_of}
use Rattle.design_maker.specs.Nets.{MadeNet, nets_of, count_of}
use Rattle.design_maker.specs.Texts.{alternating, text_of}
use Rattle.design_maker.specs.declared.made.Made.{Made}
use Rattle.design_maker.specs.declared.nets.Tile.{Tile}
use Rattle.design_maker.specs.declared.write.Count.{Count}

-- a number for each layer, and 0 for those that the grid hasn't
abbrev pub by_layer : (ℕ → ℕ) → (layers : ℕ) → List ℕ
by_layer number layers = padded (map number (range_with_len 1 layers))

-- tiles of 10 by 10 from the origin on, and layers of width, spacing and via spacing 1
abbrev pub frame_on : Shape → Frame
frame_on shape =
    let ones = by_layer (λ _. 1) shape.layers in
    record {
      shape = shape;
      layers = stack_of (by_layer (alternating 0 20) shape.layers) (by_layer (alternating 20 0) shape.layers) ones ones ones;
      lower_x = pos 0;
      lower_y = pos 0;
      tile_width = 10;
      tile_height = 10;
    }

-- the cell of a pin, on the first layer
abbrev pub cell_on : Shape → Tile → ℕ
cell_on shape tile = number_of shape (record { x = tile.column; y = tile.row; layer = 0 })

abbrev pub net_on : Shape → MadeNet → Net
net_on shape net =
    record { name = codes "n" ++ decimal net.number; id = net.number; width = 1; pins = map (cell_on shape) net.pins }

-- the made design on its grid
abbrev pub design_on : Shape → Made → DesignView
design_on shape made =
    record { frame = frame_on shape; nets = map (net_on shape) (nets_of made); adjustments = [] }

-- how many nets a design has, and how many pins these have together
abbrev pub count_in : DesignView → Count
count_in d = record { nets = length d.nets; pins = pins_of d.nets }

-- the grammar of designs accepts the made text, and reads the made design from it, whose nets and pins are those that
-- were drawn
pub record IsAccepted (made : Made) : Type 0 where
  pub shape : Shape
  pub grid : shape_of made.columns made.rows made.layers ≡ Some shape
  pub design : design_of (text_of made) ≡ Ok (design_on shape made)
  pub count : count_in (design_on shape made) ≡ count_of (nets_of made)
