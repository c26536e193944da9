-- Which wires lead out of a set of tiles.
use Rattle.std.specs.Prelude.{ℕ, ◌+◌, ◌==◌, Bool, false, ◌&&◌, nat_lt}
use Rattle.gr_base.specs.declared.grid.Shape.{Shape}
use Rattle.gr_base.specs.declared.grid.Way.{Way}
use Rattle.gr_base.specs.declared.grid.Way.TheVariants.{East, North, Up}
use Rattle.wall_laws.specs.Walls.{Tiles, differ}
use Rattle.cut_bounds.specs.Boxes.{box_number}
use Rattle.cut_bounds.specs.Cuts.{tile_at}
use Rattle.cut_bounds.specs.TileWires.{passing_at, sum_below, tiles_of}
use Rattle.cut_bounds.specs.declared.axis.Tile.{Tile}
use Rattle.cut_bounds.specs.declared.tile_wires.TileWires.{TileWires}

-- the next tile of the row, and of the column
abbrev pub right_of : Tile → Tile
right_of tile = record { x = tile.x + 1; y = tile.y }

abbrev pub above_of : Tile → Tile
above_of tile = record { x = tile.x; y = tile.y + 1 }

-- the wires that way from the tile lead to a tile of the chip, out of the set or into it
abbrev pub leads_out : Shape → (Tile → Bool) → Way → Tile → Bool
leads_out g inside East tile = nat_lt (tile.x + 1) g.columns && differ (inside tile) (inside (right_of tile))
leads_out g inside North tile = nat_lt (tile.y + 1) g.rows && differ (inside tile) (inside (above_of tile))
leads_out g inside Up tile = false

-- what the wires hold that lead out of the set or into it
abbrev pub out_holds : Shape → (Tile → Bool) → TileWires → ℕ
out_holds g inside wires =
    sum_below (tiles_of g) (passing_at (λ way number. leads_out g inside way (tile_at g.columns number)) wires)

-- the tile lies in the box with that number
abbrev pub is_boxed : Shape → ℕ → ℕ → Tile → Bool
is_boxed g level n tile = box_number g level tile == n

-- a set has the tile
abbrev pub has_tile : Tiles → Tile → Bool
has_tile tiles tile = tiles tile.x tile.y
