-- The places of the wires between neighbouring tiles, and those of a wall's wires.
use Rattle.std.specs.Prelude.{ℕ, ◌+◌, ◌-◌, ◌*◌, ◌<◌, ◌≤◌, Bool, nat_lt, List, [], ◌++◌, map, if◌then◌else◌}
use Rattle.std.specs.List.{range_with_len}
use Rattle.gr_base.specs.declared.grid.Shape.{Shape}
use Rattle.gr_base.specs.declared.grid.Way.TheVariants.{East, North}
use Rattle.cut_bounds.specs.Crossings.{has_tile, leads_out}
use Rattle.cut_bounds.specs.Cuts.{tile_at}
use Rattle.cut_bounds.specs.Measured.{tiles_in}
use Rattle.cut_bounds.specs.TileWires.{tiles_of}
use Rattle.cut_bounds.specs.declared.axis.Tile.{Tile}
use Rattle.cut_bounds.specs.declared.wall.TileBox.{TileBox}
use Rattle.cut_bounds.specs.declared.wall.Wall.{Wall}
use Rattle.cut_bounds.specs.declared.wall.Wall.TheVariants.{Column, Row, Box}

-- the wires at a place lead out of a set of tiles or into it: those to the next column have the tile's number,
-- those to the next row so many more as there are tiles
abbrev pub leads_at : Shape → (Tile → Bool) → ℕ → Bool
leads_at g inside place =
    if nat_lt place (tiles_of g) then leads_out g inside East (tile_at g.columns place)
    else leads_out g inside North (tile_at g.columns (place - tiles_of g))

-- they are the wall's
abbrev pub is_walled : Shape → Wall → ℕ → Bool
is_walled g wall place = leads_at g (has_tile (tiles_in wall)) place

-- a box lies on the chip
pub record IsBoxOf (g : Shape) (b : TileBox) : Type 0 where
  pub columns : b.x0 ≤ b.x1
  pub rows : b.y0 ≤ b.y1
  pub right : b.x1 < g.columns
  pub top : b.y1 < g.rows

-- a cut has tiles on both sides, and a box lies on the chip
abbrev pub IsWallOf : Shape → Wall → Type 0
IsWallOf g (Column x) = x + 1 < g.columns
IsWallOf g (Row y) = y + 1 < g.rows
IsWallOf g (Box b) = IsBoxOf g b

-- so many places from a first on, each a step behind the other
abbrev pub run_of : (first step count : ℕ) → List ℕ
run_of first step count = map (λ k. first + k * step) (range_with_len 0 count)

-- the wires out of a box to the left, to the right, down and up
abbrev pub left_run : Shape → TileBox → List ℕ
left_run g b = if nat_lt 0 b.x0 then run_of (b.y0 * g.columns + (b.x0 - 1)) g.columns (b.y1 + 1 - b.y0) else []

abbrev pub right_run : Shape → TileBox → List ℕ
right_run g b = if nat_lt (b.x1 + 1) g.columns then run_of (b.y0 * g.columns + b.x1) g.columns (b.y1 + 1 - b.y0) else []

abbrev pub lower_run : Shape → TileBox → List ℕ
lower_run g b = if nat_lt 0 b.y0 then run_of (tiles_of g + ((b.y0 - 1) * g.columns + b.x0)) 1 (b.x1 + 1 - b.x0) else []

abbrev pub upper_run : Shape → TileBox → List ℕ
upper_run g b =
    if nat_lt (b.y1 + 1) g.rows then run_of (tiles_of g + (b.y1 * g.columns + b.x0)) 1 (b.x1 + 1 - b.x0) else []

-- the places of a wall's wires
abbrev pub places_of : Shape → Wall → List ℕ
places_of g (Column x) = run_of x g.columns g.rows
places_of g (Row y) = run_of (tiles_of g + (y * g.columns + 0)) 1 g.columns
places_of g (Box b) = ((left_run g b ++ right_run g b) ++ lower_run g b) ++ upper_run g b
