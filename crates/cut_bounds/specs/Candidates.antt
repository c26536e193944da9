-- The straight cuts and the boxes of a grid, and those of them that are overfull.
use Rattle.std.specs.Prelude.{◌≡◌, ℕ, ◌+◌, ◌-◌, ◌*◌, ◌^◌, ◌<◌, ◌≤◌, Bool, not, ◌&&◌, ◌==◌, nat_lt, max, min}
use Rattle.std.specs.Prelude.{List, ◌++◌, All, filter, length, map, slice_index, sum_by}
use Rattle.std.specs.List.{flat_map, range_with_len}
use Rattle.gr_base.specs.Designs.{DesignView}
use Rattle.gr_base.specs.declared.grid.Shape.{Shape}
use Rattle.cut_bounds.specs.Boxes.{across_of, box_needs, boxes_on, IsOnChip}
use Rattle.cut_bounds.specs.Cuts.{tile_at}
use Rattle.cut_bounds.specs.Measured.{is_overfull, measured}
use Rattle.cut_bounds.specs.NetTiles.{AreWhole, Placed, placed_in, placed_nets}
use Rattle.cut_bounds.specs.declared.net_tiles.NetTiles.{NetTiles}
use Rattle.cut_bounds.specs.declared.wall.MeasuredWall.{MeasuredWall}
use Rattle.cut_bounds.specs.declared.wall.TileBox.{TileBox}
use Rattle.cut_bounds.specs.declared.wall.Wall.{Wall}
use Rattle.cut_bounds.specs.declared.wall.Wall.TheVariants.{Column, Row, Box}

-- the straight cuts, by column and then by row
abbrev pub column_walls : Shape → List Wall
column_walls g = map (λ x. Column x) (range_with_len 0 (g.columns - 1))

abbrev pub row_walls : Shape → List Wall
row_walls g = map (λ y. Row y) (range_with_len 0 (g.rows - 1))

abbrev pub straight_cuts : DesignView → List MeasuredWall
straight_cuts d = map (measured d) (column_walls d.frame.shape) ++ map (measured d) (row_walls d.frame.shape)

-- the box of a side from a first tile on, cut at the chip's side
abbrev pub box_from : Shape → (side x0 y0 : ℕ) → TileBox
box_from g side x0 y0 =
    record { x0 = x0; y0 = y0; x1 = min (x0 + side) g.columns - 1; y1 = min (y0 + side) g.rows - 1 }

-- the box of side 2^level with a number; boxes go by row and then by column
abbrev pub box_at : Shape → (level number : ℕ) → TileBox
box_at g level number =
    box_from g (2 ^ level) ((tile_at (across_of g level) number).x * 2 ^ level)
    ((tile_at (across_of g level) number).y * 2 ^ level)

-- a box spans all columns, and all rows
abbrev pub spans_columns : Shape → TileBox → Bool
spans_columns g b = b.x0 == 0 && b.x1 + 1 == g.columns

abbrev pub spans_rows : Shape → TileBox → Bool
spans_rows g b = b.y0 == 0 && b.y1 + 1 == g.rows

-- the box of half the side from its first tile on is the same, since both are cut
abbrev pub ends_alike : TileBox → TileBox → Bool
ends_alike a b = a.x1 == b.x1 && a.y1 == b.y1

abbrev pub is_repeat : Shape → (level : ℕ) → TileBox → Bool
is_repeat g level b = nat_lt 0 level && ends_alike (box_from g (2 ^ (level - 1)) b.x0 b.y0) b

-- the boxes of a side that count: those that span neither all columns nor all rows, each where its side is least
abbrev pub counts : Shape → (level : ℕ) → TileBox → Bool
counts g level b = not (spans_columns g b) && not (spans_rows g b) && not (is_repeat g level b)

-- the levels of the sides that are below the greater of columns and rows
abbrev pub levels_of : Shape → List ℕ
levels_of g = filter (λ level. nat_lt (2 ^ level) (max g.columns g.rows)) (range_with_len 0 24)

-- the overfull boxes that count, of a side and of all sides, by side, row and column
abbrev pub is_candidate : DesignView → (level number : ℕ) → Bool
is_candidate d level number =
    counts d.frame.shape level (box_at d.frame.shape level number) &&
    is_overfull (measured d (Box (box_at d.frame.shape level number)))

abbrev pub candidates_on : DesignView → (level : ℕ) → List MeasuredWall
candidates_on d level =
    map (λ number. measured d (Box (box_at d.frame.shape level number)))
    (filter (is_candidate d level) (range_with_len 0 (boxes_on d.frame.shape level)))

abbrev pub candidates : DesignView → List MeasuredWall
candidates d = flat_map (candidates_on d) (levels_of d.frame.shape)

-- these are what the nets need of the boxes of a side and what those hold, by number
pub record AreMeasured (d : DesignView) (level : ℕ) (need_list hold_list : List ℕ) : Type 0 where
  pub each : (n : ℕ) → n < boxes_on d.frame.shape level →
      (slice_index need_list n ≡ (measured d (Box (box_at d.frame.shape level n))).needs)
      × (slice_index hold_list n ≡ (measured d (Box (box_at d.frame.shape level n))).holds)

-- these are routed nets of a design, and the others need nothing of the boxes from a level on
pub record AreLeft (d : DesignView) (level : ℕ) (nets : NetTiles) : Type 0 where
  pub whole : AreWhole nets
  pub within : All (λ (net : Placed). All (IsOnChip d.frame.shape) net.tiles) (placed_in nets)
  pub some : All (λ (net : Placed). 0 < length net.tiles) (placed_in nets)
  pub few : sum_by (λ (net : Placed). net.need) (placed_in nets) < 2 ^ 63
  pub few_nets : length nets.net_needs.items < 2 ^ 31
  pub same : (up n : ℕ) → level ≤ up →
      box_needs d.frame.shape up n (placed_in nets) ≡ box_needs d.frame.shape up n (placed_nets d)
