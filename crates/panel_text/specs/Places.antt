-- The panels of a grid: the rows and the columns of its layers.
use Rattle.std.specs.Prelude.{ℕ, ◌<◌, List, ◌++◌, map}
use Rattle.std.specs.List.{flat_map, range_with_len}
use Rattle.gr_base.specs.Grid.{number_of}
use Rattle.gr_base.specs.declared.grid.Cell.{Cell}
use Rattle.gr_base.specs.declared.grid.Shape.{Shape}
use Rattle.gr_base.specs.declared.grid.Way.{Way}
use Rattle.gr_base.specs.declared.grid.Way.TheVariants.{East, North, Up}
use Rattle.panel_text.specs.declared.place.PanelPlace.{PanelPlace}

-- how many rows or columns a layer has for runs that go this way
abbrev pub lines_along : Shape → Way → ℕ
lines_along g East = g.rows
lines_along g North = g.columns
lines_along g Up = 0

-- how many tiles each of them has
abbrev pub tiles_along : Shape → Way → ℕ
tiles_along g East = g.columns
tiles_along g North = g.rows
tiles_along g Up = 0

-- which of them the cell is in
abbrev pub tile_of_cell : Way → Cell → ℕ
tile_of_cell East cell = cell.x
tile_of_cell North cell = cell.y
tile_of_cell Up cell = cell.layer

-- the cell at a tile of a panel
abbrev pub cell_along : Way → (layer line tile : ℕ) → Cell
cell_along East layer line tile = record { x = tile; y = line; layer = layer }
cell_along North layer line tile = record { x = line; y = tile; layer = layer }
cell_along Up layer line tile = record { x = line; y = line; layer = tile }

abbrev pub cell_in : Shape → PanelPlace → (tile : ℕ) → ℕ
cell_in g place tile = number_of g (cell_along place.way place.layer place.line tile)

-- the panel is one of the grid's
pub record IsPlace (g : Shape) (place : PanelPlace) : Type 0 where
  pub layer : place.layer < g.layers
  pub line : place.line < lines_along g place.way

-- the panels of a layer, rising by row or by column, and those of all layers
abbrev pub places_on : Shape → Way → (layer : ℕ) → List PanelPlace
places_on g way layer =
    map (λ line. record { way = way; layer = layer; line = line }) (range_with_len 0 (lines_along g way))

abbrev pub places_along : Shape → Way → List PanelPlace
places_along g way = flat_map (places_on g way) (range_with_len 0 g.layers)

-- all panels: those of rows before those of columns
abbrev pub places_of : Shape → List PanelPlace
places_of g = places_along g East ++ places_along g North
