-- Flat trees: the tiles of pins, joined by the flat walks of their topology.
use Rattle.std.specs.Prelude.{◌≡◌, ℕ, ◌<◌, Bool, ◌&&◌, ◌==◌, List, [], ◌∷◌, ◌++◌, All, map, fold, Option, if◌then◌else◌, IsTrue}
use Rattle.std.specs.List.{list_any}
use Rattle.gr_base.specs.Grid.{place_at}
use Rattle.gr_base.specs.Trees.{TreeView, node_of, holds, attached}
use Rattle.gr_base.specs.declared.grid.Cell.{Cell}
use Rattle.gr_base.specs.declared.grid.Edge.{Edge}
use Rattle.gr_base.specs.declared.grid.Shape.{Shape}
use Rattle.pattern_route.specs.Walks.{tile, flat_walk}
use Rattle.steiner_topology.specs.Tile.{Tile}
use Rattle.steiner_topology.specs.Topology.{place_of, parent_of, topology_of}
use Rattle.steiner_topology.specs.declared.point.Point.{Point}
use Rattle.layer_assign.specs.Assignments.{tile_of, IsFlat as IsFlattened}
use Rattle.net_plan.specs.FlatPrices.{flat_price}
use Rattle.net_plan.specs.Orders.{is_handled, order_of}

-- the tile of a cell
abbrev pub tile_at_place : Cell → Tile
tile_at_place cell = (cell.x, cell.y)

abbrev pub tile_under : Shape → ℕ → Tile
tile_under g cell = tile_at_place (place_at g cell)

abbrev pub is_tile : Tile → Tile → Bool
is_tile t other = t.0 == other.0 && t.1 == other.1

-- the tiles so far, and one more, unless it is one of them
abbrev pub with_tile : List Tile → Tile → List Tile
with_tile tiles t = if list_any (is_tile t) tiles then tiles else tiles ++ t ∷ []

-- the distinct tiles of cells, in the order of first appearance
abbrev pub distinct_tiles : Shape → List ℕ → List Tile
distinct_tiles g cells = fold with_tile [] (map (tile_under g) cells)

-- the cell of a tile in the one-layer grid
abbrev pub cell_of_tile : Shape → Tile → ℕ
cell_of_tile flat t = tile flat t.0 t.1

-- the cell of a point's tile, and that of its parent's
abbrev pub cell_at_point : Shape → List Point → ℕ → ℕ
cell_at_point flat points v = cell_of_tile flat (place_of points v)

abbrev pub cell_above : Shape → List Point → ℕ → ℕ
cell_above flat points v = cell_at_point flat points (parent_of points v)

-- a walk up to its first cell in the tree
abbrev pub up_to_tree : TreeView → List ℕ → List ℕ
up_to_tree t [] = []
up_to_tree t (cell ∷ rest) = cell ∷ (if holds t cell then [] else up_to_tree t rest)

-- the flat walk from a point to its parent
abbrev pub walk_up : Shape → (Edge → Option ℕ) → List Point → ℕ → List ℕ
walk_up flat price points v = flat_walk flat price (cell_at_point flat points v) (cell_above flat points v)

-- the tree after a point's walk is cut where it meets the tree, and attached
abbrev pub with_point : Shape → (Edge → Option ℕ) → List Point → TreeView → ℕ → TreeView
with_point flat price points t v = attached t (up_to_tree t (walk_up flat price points v))

-- the tree of point 0's tile alone
abbrev pub first_tile : Shape → List Point → TreeView
first_tile flat points = record { shape = flat; nodes = node_of (cell_of_tile flat (place_of points 0)) 0 ∷ [] }

-- the tree of a topology: each point in turn is joined to its parent
abbrev pub tree_of : Shape → (Edge → Option ℕ) → List Point → TreeView
tree_of flat price points = fold (with_point flat price points) (first_tile flat points) (order_of points)

-- the tile is one of the grid's
pub record IsTileIn (g : Shape) (t : Tile) : Type 0 where
  pub column : t.0 < g.columns
  pub row : t.1 < g.rows

-- the tile of each point is one of the grid's
abbrev pub AreTilesIn : Shape → List Point → Type 0
AreTilesIn g points = All (λ (p : Point). IsTileIn g p.tile) points

-- the tree holds the tile of point 0, and that of each of these points
abbrev pub HoldsHandled : Shape → List Point → List ℕ → TreeView → Type 0
HoldsHandled flat points order t =
    (v : ℕ) → IsTrue (is_handled order v) → IsTrue (holds t (cell_of_tile flat (place_of points v)))

-- the flat tree of pins over a grid: on a grid with its columns and rows and one layer, by the least prices over its
-- layers
pub record IsFlatTree (g : Shape) (price : Edge → Option ℕ) (pins : List ℕ) (t : TreeView) : Type 0 where
  pub flattened : IsFlattened g t.shape
  pub exact : t ≡ tree_of t.shape (flat_price g price) (topology_of (distinct_tiles g pins))

-- the tree holds the tile of each pin
abbrev pub HoldsTiles : Shape → List ℕ → TreeView → Type 0
HoldsTiles g pins t = All (λ pin. IsTrue (holds t (tile_of g pin))) pins
