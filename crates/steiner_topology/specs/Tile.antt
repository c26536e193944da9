-- Tiles, their distances, and the tile in the middle of three.
use Rattle.std.specs.Prelude.{ℕ, ◌+◌, min, max, List, slice_index_or}
use Rattle.gr_base.specs.Grid.{gap}

-- a tile: its column and its row
abbrev pub Tile : Type 0
Tile = ℕ × ℕ

-- the distance between two tiles: by how much they differ in column and in row
abbrev pub distance : Tile → Tile → ℕ
distance a b = gap a.0 b.0 + gap a.1 b.1

-- the middle one of three numbers
abbrev pub median : ℕ → ℕ → ℕ → ℕ
median a b c = max (min a b) (min (max a b) c)

-- the tile in the middle of three, in columns and in rows
abbrev pub middle : Tile → Tile → Tile → Tile
middle a b c = (median a.0 b.0 c.0, median a.1 b.1 c.1)

-- the tile with this number
abbrev pub tile_at : List Tile → ℕ → Tile
tile_at tiles v = slice_index_or tiles v (0, 0)
