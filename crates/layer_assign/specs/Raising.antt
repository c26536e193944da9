-- What stands while a tree is raised tile by tile.
use Rattle.std.specs.Prelude.{◌≡◌, ℕ, zero, suc, ◌+◌, ◌<◌, ◌≤◌, ◌⊎◌, Bool, true, false, ◌&&◌, ◌||◌, ◌==◌, nat_lt, not, List, length, Option, Some, unwrap_or, slice_get}
use Rattle.gr_base.specs.Trees.{TreeView, cell_at, holds, edges_of}
use Rattle.gr_base.specs.declared.grid.Edge.{Edge}
use Rattle.gr_base.specs.declared.grid.Shape.{Shape}
use Rattle.layer_assign.specs.declared.span.Span.{Span}
use Rattle.layer_assign.specs.Spans.{IsSpan}
use Rattle.layer_assign.specs.Assignments.{cell_on, tile_of, tile_at, parent_of}
use Rattle.layer_assign.specs.Raised.{is_wire_of, is_via_of, in_column}

-- f holds of a number below one
abbrev pub any_below : (ℕ → Bool) → ℕ → Bool
any_below f zero = false
any_below f (suc n) = any_below f n || f n

-- how many nodes the raised tree had just after the tile of a node was added, and 0 before
abbrev pub end_of : List ℕ → ℕ → ℕ
end_of ends node = unwrap_or (slice_get ends node) 0

-- the node's tile is done
abbrev pub is_done : List ℕ → ℕ → Bool
is_done ends node = nat_lt 0 (end_of ends node)

-- the cell is that of one of the first so many nodes
pub record IsEarly (t : TreeView) (count cell : ℕ) : Type 0 where
  pub node : ℕ
  pub before : node < count
  pub cell_is : cell_at t.nodes node ≡ Some cell

-- no cell of the tile is in the tree
abbrev pub IsFree : TreeView → ℕ → Type 0
IsFree t tile = (layer : ℕ) → layer < t.shape.layers → holds t (cell_on t.shape tile layer) ≡ false

-- the layer lies in the span
pub record IsIn (s : Span) (layer : ℕ) : Type 0 where
  pub low : s.low ≤ layer
  pub high : layer ≤ s.high

-- the spans of the tiles hold the layers of their edges
pub record HoldEdges (g : Shape) (t : TreeView) (a : ℕ → ℕ) (spans : ℕ → Span) : Type 0 where
  pub within : (node : ℕ) → node < length t.nodes → IsSpan g.layers (spans node)
  pub own : (node : ℕ) → 0 < node → node < length t.nodes → IsIn (spans node) (a node)
  pub above : (node : ℕ) → 0 < node → node < length t.nodes → IsIn (spans (parent_of t node)) (a node)

-- the edge of a node joins the tiles of two nodes, itself and its parent
abbrev pub Links : TreeView → ℕ → ℕ → ℕ → Type 0
Links t edge from to = ((from ≡ edge) × (to ≡ parent_of t edge)) ⊎ ((to ≡ edge) × (from ≡ parent_of t edge))

-- the tree has the cells of the tiles that are done, their via edges, and the wire edges of their nodes but the open
-- one
pub record IsRaised (g : Shape) (t : TreeView) (a : ℕ → ℕ) (spans : ℕ → Span) (first : Option ℕ) (done : ℕ → Bool)
    (left : ℕ) (r : TreeView) : Type 0 where
  pub shape : r.shape ≡ g
  pub starts : cell_at r.nodes 0 ≡ first
  pub cells_are : (cell : ℕ) → holds r cell ≡ any_below (λ node.
      done node && in_column g (tile_at t node) (spans node).low ((spans node).high + 1) cell) (length t.nodes)
  pub edges_are : (e : Edge) → edges_of r e ≡
      (any_below (λ node. done node && is_via_of g (tile_at t node) (spans node) e) (length t.nodes)
      || any_below (λ node. (done node && not (node == left)) && is_wire_of g t a node e) (length t.nodes))

-- the cells of each tile that is done are among the nodes that the tree had just after it was added
pub record AreEnds (g : Shape) (t : TreeView) (spans : ℕ → Span) (ends : List ℕ) (r : TreeView) : Type 0 where
  pub most : (node : ℕ) → end_of ends node ≤ length r.nodes
  pub early : (node layer : ℕ) → node < length t.nodes → is_done ends node ≡ true → IsIn (spans node) layer →
      IsEarly r (end_of ends node) (cell_on g (tile_at t node) layer)

-- the tree has the cells of a span of a cell's tile, and their via edges, and starts at the cell
pub record IsColumn (g : Shape) (cell : ℕ) (s : Span) (r : TreeView) : Type 0 where
  pub shape : r.shape ≡ g
  pub starts : cell_at r.nodes 0 ≡ Some cell
  pub cells_are : (other : ℕ) → holds r other ≡ in_column g (tile_of g cell) s.low (s.high + 1) other
  pub edges_are : (e : Edge) → edges_of r e ≡ is_via_of g (tile_of g cell) s e
