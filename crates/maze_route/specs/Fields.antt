-- The prices of a window's wire edges, as lists hold them.
use Rattle.std.specs.Prelude.{◌≡◌, ℕ, ◌+◌, ◌-◌, ◌*◌, ◌<◌, ◌≤◌, nat_lt, List, length, Option, Some, None, if◌then◌else◌, IsTrue}
use Rattle.gr_base.specs.Grid.{place_at, stride, has_room, edge_at}
use Rattle.gr_base.specs.declared.grid.Edge.{Edge}
use Rattle.gr_base.specs.declared.grid.Shape.{Shape}
use Rattle.gr_base.specs.declared.grid.Way.{Way}
use Rattle.gr_base.specs.declared.grid.Way.TheVariants.{East, North, Up}
use Rattle.maze_route.specs.Positions.{at}
use Rattle.maze_route.specs.Runs.{price_at}
use Rattle.maze_route.specs.Steps.{size_of, cell_in}
use Rattle.maze_route.specs.declared.field.Field.{Field}
use Rattle.maze_route.specs.declared.pane.Pane.{Pane}
use Rattle.maze_route.specs.declared.window.Window.{Window}

-- the edge this way from each of the first cells that has one in the window has its price, and the other cells have none
pub record ArePricedTo (p : Pane) (price : Edge → Option ℕ) (way : Way) (cells : ℕ) (prices : List ℕ) : Type 0 where
  pub size : length prices ≡ size_of p
  pub first : (n : ℕ) → n < cells → n < size_of p → IsTrue (has_room p.shape (place_at p.shape n) way) →
      price_at prices n ≡ price (edge_at (cell_in p n) way)
  pub others : (n : ℕ) → cells ≤ n → price_at prices n ≡ None

-- so has that from each cell
pub record IsTable (p : Pane) (price : Edge → Option ℕ) (way : Way) (prices : List ℕ) : Type 0 where
  pub size : length prices ≡ size_of p
  pub each : (n : ℕ) → n < size_of p → IsTrue (has_room p.shape (place_at p.shape n) way) →
      price_at prices n ≡ price (edge_at (cell_in p n) way)

-- the field holds the price of each wire edge of its window
pub record IsPriced (price : Edge → Option ℕ) (field : Field) : Type 0 where
  pub east : IsTable field.pane price East field.east.items
  pub north : IsTable field.pane price North field.north.items

-- no price that is held for the cells of a line, a stride apart, is less than the number for it
abbrev pub IsUnderPrices : List ℕ → Shape → Way → ℕ → ℕ → List ℕ → Type 0
IsUnderPrices prices s way first count numbers = (place cost : ℕ) → place < count →
    price_at prices (first + place * stride s way) ≡ Some cost → at numbers place ≤ cost

-- all columns and rows of a window's own grid
abbrev pub inner : Shape → Window
inner s = record { x0 = 0; y0 = 0; x1 = s.columns - 1; y1 = s.rows - 1 }

-- how many edges this way begin in a row of the window and end in it
abbrev pub edges_in_line : Pane → Way → ℕ → ℕ
edges_in_line p East row = p.shape.columns - 1
edges_in_line p North row = if nat_lt (row + 1) p.shape.rows then p.shape.columns else 0
edges_in_line p Up row = 0
