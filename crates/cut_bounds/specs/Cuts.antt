-- What nets need across straight cuts, and what the cuts hold, line by line.
use Rattle.std.specs.Prelude.{◌≡◌, ℕ, ◌+◌, ◌/◌, ◌%◌, ◌<◌, nat_le, Bool, not, ◌==◌, List}
use Rattle.std.specs.Prelude.{All, length, map, take, sum, sum_by, slice_index}
use Rattle.std.specs.List.{list_any}
use Rattle.gr_base.specs.declared.grid.Shape.{Shape}
use Rattle.wall_laws.specs.Walls.{is_parted}
use Rattle.cut_bounds.specs.declared.axis.Axis.{Axis}
use Rattle.cut_bounds.specs.declared.axis.Axis.TheVariants.{Columns, Rows}
use Rattle.cut_bounds.specs.declared.axis.Tile.{Tile}
use Rattle.cut_bounds.specs.declared.tile_wires.TileWires.{TileWires}
use Rattle.cut_bounds.specs.NetTiles.{Placed}
use Rattle.cut_bounds.specs.TileWires.{sum_below, tiles_of, where_so}

-- the tile's column or row
abbrev pub along : Axis → Tile → ℕ
along Columns tile = tile.x
along Rows tile = tile.y

-- how many columns or rows there are
abbrev pub lines_of : Shape → Axis → ℕ
lines_of g Columns = g.columns
lines_of g Rows = g.rows

abbrev pub AreWithin : Axis → ℕ → List Tile → Type 0
AreWithin axis lines tiles = All (λ tile. along axis tile < lines) tiles

-- some tile lies in the line or before, and all do
abbrev pub is_reached : Axis → ℕ → List Tile → Bool
is_reached axis line tiles = list_any (λ at. nat_le at line) (map (along axis) tiles)

abbrev pub is_passed : Axis → ℕ → List Tile → Bool
is_passed axis line tiles = not (list_any (λ at. not (nat_le at line)) (map (along axis) tiles))

-- what the nets need of which some tile lies in the line or before, and of which all do
abbrev pub reached_sum : Axis → ℕ → List Placed → ℕ
reached_sum axis line nets = sum_by (λ (net : Placed). where_so (is_reached axis line net.tiles) net.need) nets

abbrev pub passed_sum : Axis → ℕ → List Placed → ℕ
passed_sum axis line nets = sum_by (λ (net : Placed). where_so (is_passed axis line net.tiles) net.need) nets

-- what the nets need that are parted by the cut behind the line
abbrev pub line_needs : Axis → ℕ → List Placed → ℕ
line_needs axis line nets =
    sum_by (λ (net : Placed). where_so (is_parted (λ at. nat_le at line) (map (along axis) net.tiles)) net.need) nets

-- the sum of a list's numbers up to a place
abbrev pub sum_to : ℕ → List ℕ → ℕ
sum_to at numbers = sum (take (at + 1) numbers)

-- the tile with a number: tiles go by row and then by column
abbrev pub tile_at : ℕ → ℕ → Tile
tile_at columns number = record { x = number % columns; y = number / columns }

-- what the wires hold that lead from a line to the next
abbrev pub wires_along : Axis → TileWires → List ℕ
wires_along Columns wires = wires.east.items
wires_along Rows wires = wires.north.items

abbrev pub line_holds : Shape → Axis → ℕ → TileWires → ℕ
line_holds g axis line wires =
    sum_below (tiles_of g)
    (λ tile. where_so (along axis (tile_at g.columns tile) == line) (slice_index (wires_along axis wires) tile))

-- what is counted so far, and what the other nets have, make what all have
pub record AreCounted (axis : Axis) (begun ended : List ℕ) (nets all : List Placed) : Type 0 where
  pub first : (line : ℕ) → sum_to line begun + reached_sum axis line nets ≡ reached_sum axis line all
  pub last : (line : ℕ) → sum_to line ended + passed_sum axis line nets ≡ passed_sum axis line all

-- what the nets have that begin in each line, and what those have that end in it
pub record AreSums (axis : Axis) (lines : ℕ) (nets : List Placed) (begun ended : List ℕ) : Type 0 where
  pub begun_long : length begun ≡ lines
  pub ended_long : length ended ≡ lines
  pub reached : (line : ℕ) → sum_to line begun ≡ reached_sum axis line nets
  pub passed : (line : ℕ) → sum_to line ended ≡ passed_sum axis line nets
