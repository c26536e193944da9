-- The boxes of a side, which is a power of two, and the numbers of the boxes that tiles lie in.
use Rattle.std.specs.Prelude.{◌≡◌, ℕ, ◌+◌, ◌-◌, ◌*◌, ◌/◌, ◌^◌, ◌<◌, ◌≤◌, ◌==◌, Bool, not, List, length, map}
use Rattle.std.specs.Prelude.{slice_index, sum_by}
use Rattle.std.specs.List.{list_all, list_any}
use Rattle.gr_base.specs.declared.grid.Shape.{Shape}
use Rattle.wall_laws.specs.Walls.{is_parted}
use Rattle.cut_bounds.specs.NetTiles.{Placed}
use Rattle.cut_bounds.specs.TileWires.{where_so}
use Rattle.cut_bounds.specs.declared.axis.Tile.{Tile}

-- a tile's column and row are the grid's
pub record IsOnChip (g : Shape) (tile : Tile) : Type 0 where
  pub column : tile.x < g.columns
  pub row : tile.y < g.rows

-- how many boxes of side 2^level a row and a column of boxes have, and how many there are
abbrev pub across_of : Shape → ℕ → ℕ
across_of g level = (g.columns - 1) / 2 ^ level + 1

abbrev pub up_of : Shape → ℕ → ℕ
up_of g level = (g.rows - 1) / 2 ^ level + 1

abbrev pub boxes_on : Shape → ℕ → ℕ
boxes_on g level = across_of g level * up_of g level

-- the number of the box that a tile lies in
abbrev pub box_number : Shape → ℕ → Tile → ℕ
box_number g level tile = tile.y / 2 ^ level * across_of g level + tile.x / 2 ^ level

-- all numbers of a list are its first
abbrev pub lies_in_one : List ℕ → Bool
lies_in_one numbers = list_all (λ number. number == slice_index numbers 0) numbers

-- no box of a side holds all tiles of a net
abbrev pub is_parted_on : Shape → ℕ → Placed → Bool
is_parted_on g level net = not (lies_in_one (map (box_number g level) net.tiles))

-- what the nets need that are parted by a box
abbrev pub box_needs : Shape → ℕ → ℕ → List Placed → ℕ
box_needs g level n nets =
    sum_by (λ (net : Placed). where_so (is_parted (λ b. b == n) (map (box_number g level) net.tiles)) net.need) nets

-- the boxes with these numbers each have a mark and have gained a need once, and no other
pub record AreMarked (numbers old : List ℕ) (need mark : ℕ) (needs marks : List ℕ) : Type 0 where
  pub long : length needs ≡ length old
  pub same : length marks ≡ length old
  pub marked : (n : ℕ) → (slice_index marks n == mark) ≡ list_any (λ b. b == n) numbers
  pub below : (n : ℕ) → slice_index marks n ≤ mark
  pub needed : (n : ℕ) → slice_index needs n ≡ slice_index old n + where_so (list_any (λ b. b == n) numbers) need
