-- Assignments of a flat tree's edges to layers: what they may be, what they cost, and which is the first least one.
use Rattle.std.specs.Prelude.{◌≡◌, ℕ, ◌+◌, ◌*◌, ◌/◌, ◌%◌, ◌<◌, ◌≤◌, Bool, false, ◌&&◌, ◌||◌, ◌==◌, nat_lt, List, ◌++◌, All, length, map, filter, sum_by, Option, unwrap_or, IsTrue}
use Rattle.std.specs.List.{range_with_len}
use Rattle.std.specs.Option.{option_map, option_and_then}
use Rattle.gr_base.specs.ParentEdges.{parent_edge}
use Rattle.gr_base.specs.Grid.{cells_of, on_layer}
use Rattle.gr_base.specs.Trees.{TreeView, cell_at, parent_at, holds}
use Rattle.gr_base.specs.declared.grid.Edge.{Edge}
use Rattle.gr_base.specs.declared.grid.Shape.{Shape}
use Rattle.gr_base.specs.declared.grid.Way.{Way}
use Rattle.layer_assign.specs.Spans.{span_of, climb}

-- the shape has the grid's columns and rows and one layer
pub record IsFlat (g flat : Shape) : Type 0 where
  pub columns : flat.columns ≡ g.columns
  pub rows : flat.rows ≡ g.rows
  pub layers : flat.layers ≡ 1

-- how many tiles the grid has; a tile has the number of its cell on layer 0
abbrev pub tile_count : Shape → ℕ
tile_count g = g.columns * g.rows

-- the tile of a cell, and its layer
abbrev pub tile_of : Shape → ℕ → ℕ
tile_of g cell = cell % tile_count g

abbrev pub level_of : Shape → ℕ → ℕ
level_of g cell = cell / tile_count g

-- the cell of a tile on a layer
abbrev pub cell_on : Shape → ℕ → ℕ → ℕ
cell_on g tile layer = layer * tile_count g + tile

-- the tile and the parent of a node
abbrev pub tile_at : TreeView → ℕ → ℕ
tile_at t node = unwrap_or (cell_at t.nodes node) 0

abbrev pub parent_of : TreeView → ℕ → ℕ
parent_of t node = unwrap_or (parent_at t.nodes node) 0

-- a node's edge may be on a layer: the grid has the layer, and it goes the edge's way
abbrev pub goes_on : Shape → (ℕ → Way → Bool) → ℕ → Edge → Bool
goes_on g ways layer e = nat_lt layer g.layers && ways layer e.way

abbrev pub may_take : Shape → (ℕ → Way → Bool) → TreeView → ℕ → ℕ → Bool
may_take g ways t node layer = unwrap_or (option_map (goes_on g ways layer) (parent_edge t node)) false

-- an assignment gives each node but node 0 a layer that goes the way of the node's edge
abbrev pub IsAssignment : Shape → (ℕ → Way → Bool) → TreeView → (ℕ → ℕ) → Type 0
IsAssignment g ways t a = (node : ℕ) → 0 < node → node < length t.nodes → IsTrue (may_take g ways t node (a node))

-- what the wire edge of a node on a layer costs; node 0 has none, which costs nothing
abbrev pub wire_cost : Shape → (Edge → Option ℕ) → TreeView → ℕ → ℕ → ℕ
wire_cost g price t node layer = unwrap_or (option_and_then (λ e. price (on_layer g layer e)) (parent_edge t node)) 0

-- the edge from one node to its parent ends in another node's tile
abbrev pub ends_at : TreeView → ℕ → ℕ → Bool
ends_at t node below = nat_lt 0 below && ((below == node) || (parent_of t below == node))

-- the layers of the pins in a tile
abbrev pub pin_layers : Shape → List ℕ → ℕ → List ℕ
pin_layers g pins tile = map (level_of g) (filter (λ pin. tile_of g pin == tile) pins)

-- the layers that meet in a node's tile: those of its pins, and of those of its edges whose nodes are below a number
abbrev pub met_below : Shape → TreeView → List ℕ → (ℕ → ℕ) → ℕ → ℕ → List ℕ
met_below g t pins a node number =
    pin_layers g pins (tile_at t node) ++ map a (filter (ends_at t node) (range_with_len 0 number))

-- the layers that meet in a node's tile: those of its pins and of its edges
abbrev pub met : Shape → TreeView → List ℕ → (ℕ → ℕ) → ℕ → List ℕ
met g t pins a node = met_below g t pins a node (length t.nodes)

-- the cost of an assignment: what its wire edges cost, and the climbs from the least to the greatest layer that meet
-- in each tile
abbrev pub cost_of : Shape → (Edge → Option ℕ) → TreeView → List ℕ → (ℕ → ℕ) → ℕ
cost_of g price t pins a =
    sum_by (λ node. wire_cost g price t node (a node)) (range_with_len 0 (length t.nodes))
    + sum_by (λ node. climb (span_of (met g t pins a node))) (range_with_len 0 (length t.nodes))

-- no assignment costs less
abbrev pub IsLeast : Shape → (ℕ → Way → Bool) → (Edge → Option ℕ) → TreeView → List ℕ → (ℕ → ℕ) → Type 0
IsLeast g ways price t pins a = (b : ℕ → ℕ) → IsAssignment g ways t b →
    cost_of g price t pins a ≤ cost_of g price t pins b

-- two assignments are alike before a node
abbrev pub AreAlike : (ℕ → ℕ) → (ℕ → ℕ) → ℕ → Type 0
AreAlike a b node = (other : ℕ) → 0 < other → other < node → a other ≡ b other

-- of the assignments of equal cost this is the first: where another is like it before a node, the other's layer at
-- the node isn't less
abbrev pub IsFirst : Shape → (ℕ → Way → Bool) → (Edge → Option ℕ) → TreeView → List ℕ → (ℕ → ℕ) → Type 0
IsFirst g ways price t pins a =
    (b : ℕ → ℕ) → IsAssignment g ways t b → cost_of g price t pins b ≡ cost_of g price t pins a →
    (node : ℕ) → 0 < node → node < length t.nodes → AreAlike a b node → a node ≤ b node

-- each edge of the tree has a layer that goes its way
abbrev pub HasLayers : Shape → (ℕ → Way → Bool) → TreeView → Type 0
HasLayers g ways t =
    (node : ℕ) → 0 < node → node < length t.nodes → (layer : ℕ) × IsTrue (may_take g ways t node layer)

-- the pins are cells of the grid, at least one, and the tree holds the tile of each
pub record ArePins (g : Shape) (t : TreeView) (pins : List ℕ) : Type 0 where
  pub some : 0 < length pins
  pub cells : All (λ pin. pin < cells_of g) pins
  pub tiles : All (λ pin. IsTrue (holds t (tile_of g pin))) pins
