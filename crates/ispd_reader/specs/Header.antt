-- The head of a design text: the grid, the capacities, the widths and spacings, and where the tiles lie.
use Rattle.std.specs.Prelude.{◌≡◌, ℕ, ◌-◌, ◌<◌, All, Any, take, Bool, true, false, ◌||◌, not, nat_lt, ℤ, pos, neg_ℤ, List, [], ◌++◌, length, map, Option, Some, None, slice_index, replicate, refl, codes}
use Rattle.std.specs.List.{list_any, range_with_len}
use Rattle.gr_base.specs.Limits.{is_grid, most_layers, most_cells, most_capacity, most_width, most_lower, most_tile}
use Rattle.gr_base.specs.Designs.{IsLayer}
use Rattle.gr_base.specs.declared.frame.Frame.{Frame}
use Rattle.gr_base.specs.declared.frame.Layer.{Layer}
use Rattle.gr_base.specs.declared.grid.Shape.{Shape}
use Rattle.gr_text.specs.Reading.{Reader, ◌>>=◌, ◌>>◌, pure, check, given, word, number, natural, several}
use Rattle.ispd_reader.specs.Faults.{ends}
use Rattle.ispd_reader.specs.Steps.{words}
use Rattle.ispd_reader.specs.declared.fault.DesignFault.{DesignFault}
use Rattle.ispd_reader.specs.declared.fault.DesignFault.TheVariants.{Word, Number, Grid, Tile, NoLayer}

abbrev pub shape_where : (columns rows layers : ℕ) → (valid : Bool) → is_grid columns rows layers ≡ valid → Option Shape
shape_where columns rows layers true valid =
    Some (record { columns = columns; rows = rows; layers = layers; valid = valid })
shape_where columns rows layers false valid = None

-- the grid of so many columns, rows and layers, if there is one
abbrev pub shape_of : ℕ → ℕ → ℕ → Option Shape
shape_of columns rows layers = shape_where columns rows layers (is_grid columns rows layers) refl

-- a whole number above 0, where 0 has a fault of its own
unfoldable pub above_zero : ℕ → DesignFault → Reader DesignFault ℕ
above_zero most fault = do
  n ← natural ends Number most
  check (nat_lt 0 n) fault
  pure n

-- the word `grid` and the numbers of columns, rows and layers
unfoldable pub grid : Reader DesignFault Shape
grid = do
  word ends Word (codes "grid")
  columns ← above_zero most_cells Number
  rows ← above_zero most_cells Number
  layers ← above_zero most_layers Number
  given (shape_of columns rows layers) Grid

-- the numbers, and 0 for each layer that a grid may have and this one hasn't
abbrev pub padded : List ℕ → List ℕ
padded numbers = numbers ++ replicate (most_layers - length numbers) 0

-- one number for each of the layers
unfoldable pub by_layer : ℕ → ℕ → Reader DesignFault (List ℕ)
by_layer layers most = do
  numbers ← several (λ _. natural ends Number most) layers []
  pure (padded numbers)

-- the layers' capacities along one way; where the grid is wider than one tile that way, not all of them are 0
unfoldable pub capacities : List ℕ → ℕ → ℕ → Reader DesignFault (List ℕ)
capacities way tiles layers = do
  words way (codes "capacity")
  numbers ← by_layer layers most_capacity
  check (not (nat_lt 1 tiles) || list_any (nat_lt 0) numbers) NoLayer
  pure numbers

-- the layers' widths or spacings
unfoldable pub measures : List ℕ → List ℕ → ℕ → Reader DesignFault (List ℕ)
measures first second layers = do
  words first second
  by_layer layers most_width

-- a layer's numbers out of those of all layers
abbrev pub layer_at : (vertical horizontal width spacing via : List ℕ) → ℕ → Layer
layer_at vertical horizontal width spacing via at = record {
  vertical = slice_index vertical at;
  horizontal = slice_index horizontal at;
  width = slice_index width at;
  spacing = slice_index spacing at;
  via = slice_index via at;
}

-- the numbers of each layer that a grid may have
unfoldable pub stack_of : (vertical horizontal width spacing via : List ℕ) → List Layer
stack_of vertical horizontal width spacing via =
    map (layer_at vertical horizontal width spacing via) (range_with_len 0 most_layers)

-- the capacities, widths and spacings of the grid's layers
unfoldable pub layers : Shape → Reader DesignFault (List Layer)
layers shape = do
  vertical ← capacities (codes "vertical") shape.rows shape.layers
  horizontal ← capacities (codes "horizontal") shape.columns shape.layers
  width ← measures (codes "minimum") (codes "width") shape.layers
  spacing ← measures (codes "minimum") (codes "spacing") shape.layers
  via ← measures (codes "via") (codes "spacing") shape.layers
  pure (stack_of vertical horizontal width spacing via)

-- the layers' numbers are in range, and wires can run along each way in which the grid is wider than one tile
pub record IsStack (shape : Shape) (stack : List Layer) : Type 0 where
  pub count : length stack ≡ most_layers
  pub layers : All IsLayer stack
  pub horizontal : 1 < shape.columns → Any (λ layer. 0 < layer.horizontal) (take shape.layers stack)
  pub vertical : 1 < shape.rows → Any (λ layer. 0 < layer.vertical) (take shape.layers stack)

-- a coordinate of the chip's lower left corner
unfoldable pub corner : Reader DesignFault ℤ
corner = number ends Number (neg_ℤ (pos most_lower)) (pos most_lower)

-- all that stands before the nets
unfoldable pub frame : Reader DesignFault Frame
frame = do
  shape ← grid
  layers ← layers shape
  lower_x ← corner
  lower_y ← corner
  tile_width ← above_zero most_tile Tile
  tile_height ← above_zero most_tile Tile
  pure (record {
    shape = shape;
    layers = layers;
    lower_x = lower_x;
    lower_y = lower_y;
    tile_width = tile_width;
    tile_height = tile_height;
  })
