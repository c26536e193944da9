-- Overfull edges by tables.
use Rattle.std.specs.Prelude.{◌≡◌, ℕ, ◌+◌, ◌*◌, ◌/◌, ◌%◌, ◌<◌, ◌≤◌, Bool, true, false, ◌&&◌, List, length, slice_index_or, IsTrue}
use Rattle.gr_base.specs.Grid.{place_at, has_edge, is_wire}
use Rattle.gr_base.specs.declared.grid.Edge.{Edge}
use Rattle.gr_base.specs.declared.grid.Shape.{Shape}
use Rattle.grid_demand.specs.LoadSums.{LoadsView}
use Rattle.grid_demand.specs.Overfull.{is_told, AreOverfull}
use Rattle.grid_demand.specs.Tables.{CapacityView}
use Rattle.maze_route.specs.Windows.{is_within}
use Rattle.maze_route.specs.declared.window.Window.{Window}
use Rattle.book_state.specs.declared.crowds.Crowds.{Crowds}

-- a wire edge for which the table says so
abbrev pub is_overfull : List Bool → Edge → Bool
is_overfull over e = is_wire e && is_told over e

-- the number of the tile of a cell: tiles go by column, then by row
abbrev pub tile_of : Shape → ℕ → ℕ
tile_of g cell = (place_at g cell).y * g.columns + (place_at g cell).x

-- the table says so of each tile in which an overfull edge begins
abbrev pub AreTiles : Shape → List Bool → List Bool → Type 0
AreTiles g over tiles =
    (e : Edge) → IsTrue (has_edge g e) → is_overfull over e ≡ true → slice_index_or tiles (tile_of g e.low) false ≡ true

-- for each tile the table has a number above the column of each such tile at or before it in its row
abbrev pub AreColumns : (columns : ℕ) → List Bool → List ℕ → Type 0
AreColumns columns tiles last = (from to : ℕ) → from / columns ≡ to / columns → from ≤ to → to < length last →
    slice_index_or tiles from false ≡ true → from % columns < slice_index_or last to 0

-- no overfull edge begins in the box
abbrev pub IsCalm : Shape → List Bool → Window → Type 0
IsCalm g over w =
    (e : Edge) → IsTrue (has_edge g e) → IsTrue (is_within w (place_at g e.low)) → is_overfull over e ≡ false

-- the tables are those of the loads
pub record AreCrowds (c : CapacityView) (l : LoadsView) (k : Crowds) : Type 0 where
  pub over : AreOverfull c l k.over
  pub shape : k.shape ≡ c.shape
  pub long : length k.last.items ≡ k.shape.columns * k.shape.rows
  pub tiles : List Bool
  pub told : AreTiles k.shape k.over.table tiles
  pub columns : AreColumns k.shape.columns tiles k.last.items
