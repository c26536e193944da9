-- Maze plans: a tree that grows in a net's window by least walks.
use Rattle.std.specs.Prelude.{◌≡◌, ℕ, ◌+◌, ◌-◌, min, max, not, List, [], ◌∷◌, map, filter, fold, slice_index, Option}
use Rattle.cost_rules.specs.declared.site.Formula.{Formula}
use Rattle.gr_base.specs.Grid.{place_at}
use Rattle.gr_base.specs.Trees.{TreeView, node_of, holds, attached}
use Rattle.gr_base.specs.declared.grid.Edge.{Edge}
use Rattle.gr_base.specs.declared.grid.Shape.{Shape}
use Rattle.grid_demand.specs.LoadSums.{LoadsView}
use Rattle.grid_demand.specs.Tables.{CapacityView}
use Rattle.maze_route.specs.Walks.{IsLeastWalk}
use Rattle.maze_route.specs.Windows.{window_graph}
use Rattle.maze_route.specs.declared.window.Window.{Window}
use Rattle.net_plan.specs.Prices.{price_of}

-- the least and the greatest of some numbers
abbrev pub least_of : List ℕ → ℕ
least_of ns = fold min (slice_index ns 0) ns

abbrev pub greatest_of : List ℕ → ℕ
greatest_of ns = fold max (slice_index ns 0) ns

-- the columns and the rows of cells
abbrev pub columns_of : Shape → List ℕ → List ℕ
columns_of g cells = map (λ cell. (place_at g cell).x) cells

abbrev pub rows_of : Shape → List ℕ → List ℕ
rows_of g cells = map (λ cell. (place_at g cell).y) cells

-- the least box of columns and rows that holds the cells
abbrev pub box_of : Shape → List ℕ → Window
box_of g cells = record {
  x0 = least_of (columns_of g cells);
  y0 = least_of (rows_of g cells);
  x1 = greatest_of (columns_of g cells);
  y1 = greatest_of (rows_of g cells);
}

-- a box grown by a margin on each side, and cut at the chip's border
abbrev pub grown_by : Shape → ℕ → Window → Window
grown_by g margin box = record {
  x0 = box.x0 - margin;
  y0 = box.y0 - margin;
  x1 = min (box.x1 + margin) (g.columns - 1);
  y1 = min (box.y1 + margin) (g.rows - 1);
}

-- the window of a net's pins
abbrev pub window_of : Shape → List ℕ → ℕ → Window
window_of g pins margin = grown_by g margin (box_of g pins)

-- the pins whose cells aren't in the tree
abbrev pub missing : TreeView → List ℕ → List ℕ
missing t pins = filter (λ pin. not (holds t pin)) pins

-- while a pin's cell isn't in the tree, the least walk in the window from the nearest such cell to the tree is attached
pub data GrowsTo (w : Window) (price : Edge → Option ℕ) (pins : List ℕ) : TreeView → TreeView → Type 0 where
  Ends : {t : TreeView} → missing t pins ≡ [] → GrowsTo w price pins t t
  Goes_on : {t u : TreeView} → (walk : List ℕ) → IsLeastWalk (window_graph t w price) (missing t pins) walk →
      GrowsTo w price pins (attached t walk) u → GrowsTo w price pins t u

-- the tree of the driver's cell alone
abbrev pub driver_tree : Shape → List ℕ → TreeView
driver_tree g pins = record { shape = g; nodes = node_of (slice_index pins 0) 0 ∷ [] }

-- the maze plan of a net: what the tree of the driver's cell grows to in the net's window
abbrev pub IsMaze : CapacityView → LoadsView → Formula → ℕ → List ℕ → ℕ → TreeView → Type 0
IsMaze c l formula net pins margin t =
    GrowsTo (window_of c.shape pins margin) (price_of c l formula net) pins (driver_tree c.shape pins) t

-- there is no other such plan
abbrev pub IsOnlyMaze : CapacityView → LoadsView → Formula → ℕ → List ℕ → ℕ → TreeView → Type 0
IsOnlyMaze c l formula net pins margin t = (other : TreeView) → IsMaze c l formula net pins margin other → other ≡ t
