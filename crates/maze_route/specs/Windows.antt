-- Windows of a grid, and the walks inside them.
use Rattle.std.specs.Prelude.{ℕ, ◌<◌, ◌≤◌, Bool, ◌&&◌, nat_lt, nat_le, min, max, List, All, Option, None, if◌then◌else◌, IsTrue, option_and_then}
use Rattle.gr_base.specs.declared.grid.Cell.{Cell}
use Rattle.gr_base.specs.declared.grid.Edge.{Edge}
use Rattle.gr_base.specs.declared.grid.Shape.{Shape}
use Rattle.gr_base.specs.declared.grid.Way.{Way}
use Rattle.gr_base.specs.declared.grid.Way.TheVariants.{East, North}
use Rattle.gr_base.specs.Grid.{cells_of, place_at, edge_of}
use Rattle.gr_base.specs.Trees.{TreeView, holds}
use Rattle.maze_route.specs.Walks.{Graph}
use Rattle.maze_route.specs.declared.window.Window.{Window}

-- the window lies in the grid
pub record IsWindow (g : Shape) (w : Window) : Type 0 where
  pub columns : w.x0 ≤ w.x1
  pub rows : w.y0 ≤ w.y1
  pub last_column : w.x1 < g.columns
  pub last_row : w.y1 < g.rows

-- the least box that holds a box and a place
abbrev pub with_place : Window → Cell → Window
with_place w place = record {
  x0 = min w.x0 place.x;
  y0 = min w.y0 place.y;
  x1 = max w.x1 place.x;
  y1 = max w.y1 place.y;
}

-- the place lies in the window's columns and rows
abbrev pub is_within : Window → Cell → Bool
is_within w cell = nat_le w.x0 cell.x && nat_le cell.x w.x1 && nat_le w.y0 cell.y && nat_le cell.y w.y1

-- the number is that of a cell of the grid in the window
abbrev pub in_window : Shape → Window → ℕ → Bool
in_window g w cell = nat_lt cell (cells_of g) && is_within w (place_at g cell)

-- what a step from one cell of the window to another costs: the price of the edge between them
abbrev pub window_step : Shape → Window → (Edge → Option ℕ) → ℕ → ℕ → Option ℕ
window_step g w price u v = if in_window g w u && in_window g w v then option_and_then price (edge_of g u v) else None

-- walks in the window from the tree, along edges that have a price
abbrev pub window_graph : TreeView → Window → (Edge → Option ℕ) → Graph
window_graph t w price = record { source = holds t; step = window_step t.shape w price }

-- some layer of the grid goes this way
pub record SomeLayerGoes (g : Shape) (ways : ℕ → Way → Bool) (way : Way) : Type 0 where
  pub layer : ℕ
  pub inside : layer < g.layers
  pub goes : IsTrue (ways layer way)

-- a window of more than one column has a layer that goes East, one of more than one row a layer that goes North
pub record IsPassable (g : Shape) (ways : ℕ → Way → Bool) (w : Window) : Type 0 where
  pub east : w.x0 < w.x1 → SomeLayerGoes g ways East
  pub north : w.y0 < w.y1 → SomeLayerGoes g ways North

-- each cell of the tree lies in the window
abbrev pub TreeLiesIn : Window → TreeView → Type 0
TreeLiesIn w t = (cell : ℕ) → IsTrue (holds t cell) → IsTrue (in_window t.shape w cell)

-- each of these cells lies in the window
abbrev pub LieIn : Shape → Window → List ℕ → Type 0
LieIn g w cells = All (λ cell. IsTrue (in_window g w cell)) cells
