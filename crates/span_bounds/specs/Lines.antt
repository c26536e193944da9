-- The numbers of cells that are listed.
use Rattle.std.specs.Prelude.{◌≡◌, ℕ, ◌+◌, ◌*◌}
use Rattle.gr_base.specs.Designs.{DesignView}
use Rattle.gr_base.specs.declared.grid.Shape.{Shape}
use Rattle.wall_laws.specs.Spans.{column_of, row_of, layer_of, tile_number, least_wires, least_vias, least_usable_vias}
use Rattle.span_bounds.specs.declared.numbers.Number.{Number}
use Rattle.span_bounds.specs.declared.numbers.Number.TheVariants.{Column, Row, Layer, Tile}

-- the number of a cell
abbrev pub number_of : Shape → Number → ℕ → ℕ
number_of g Column cell = column_of g cell
number_of g Row cell = row_of g cell
number_of g Layer cell = layer_of g cell
number_of g Tile cell = tile_number g cell
