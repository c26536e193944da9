-- The edges and cells of the tree that is raised from an assignment.
use Rattle.std.specs.Prelude.{◌≡◌, ℕ, ◌<◌, Bool, false, ◌&&◌, ◌||◌, ◌==◌, nat_lt, nat_le, List, ◌++◌, length, Option, Some, None, unwrap_or, slice_index}
use Rattle.std.specs.List.{list_any, range_with_len}
use Rattle.std.specs.Option.{option_map}
use Rattle.gr_base.specs.Grid.{on_layer}
use Rattle.gr_base.specs.ParentEdges.{parent_edge}
use Rattle.gr_base.specs.EdgeSets.{Edges, is_way, is_edge}
use Rattle.gr_base.specs.Trees.{TreeView, cell_at, holds, edges_of}
use Rattle.gr_base.specs.declared.grid.Edge.{Edge}
use Rattle.gr_base.specs.declared.grid.Shape.{Shape}
use Rattle.gr_base.specs.declared.grid.Way.TheVariants.{Up}
use Rattle.gr_base.specs.declared.tree.Node.{Node}
use Rattle.layer_assign.specs.declared.span.Span.{Span}
use Rattle.layer_assign.specs.Spans.{span_of}
use Rattle.layer_assign.specs.Assignments.{tile_of, level_of, tile_at, met}

-- the edge is the wire edge of a node, on the node's layer
abbrev pub is_wire_of : Shape → TreeView → (ℕ → ℕ) → ℕ → Edge → Bool
is_wire_of g t a node e = unwrap_or (option_map (λ f. is_edge e (on_layer g (a node) f)) (parent_edge t node)) false

-- the cell is a tile's, on a layer from one and below another
abbrev pub in_column : Shape → ℕ → ℕ → ℕ → ℕ → Bool
in_column g tile from end cell =
    (tile_of g cell == tile) && nat_le from (level_of g cell) && nat_lt (level_of g cell) end

-- the edge is a via edge of a tile between the least and the greatest layer of a span
abbrev pub is_via_of : Shape → ℕ → Span → Edge → Bool
is_via_of g tile s e = is_way e.way Up && in_column g tile s.low s.high e.low

-- the same where a tile has a span
abbrev pub is_via_in : Shape → ℕ → Option Span → Edge → Bool
is_via_in g tile None e = false
is_via_in g tile (Some s) e = is_via_of g tile s e

-- the edges of an assignment: its wire edges, and in each tile the via edges between the least and the greatest
-- layer that meet there
abbrev pub raised_edges : Shape → TreeView → List ℕ → (ℕ → ℕ) → Edges
raised_edges g t pins a e =
    list_any (λ node. is_wire_of g t a node e) (range_with_len 0 (length t.nodes))
    || list_any (λ node. is_via_in g (tile_at t node) (span_of (met g t pins a node)) e)
    (range_with_len 0 (length t.nodes))

-- the layers are the grid's, for each node but node 0
pub record AreLayers (g : Shape) (t : TreeView) (layers : List ℕ) : Type 0 where
  pub nodes : length layers ≡ length t.nodes
  pub below : (node : ℕ) → 0 < node → node < length t.nodes → slice_index layers node < g.layers

-- the tree has these cells and edges besides those that it had, and its nodes as before with more behind them
pub record Grows (old new : TreeView) (cells : ℕ → Bool) (edges : Edge → Bool) : Type 0 where
  pub shape : new.shape ≡ old.shape
  pub first : cell_at new.nodes 0 ≡ cell_at old.nodes 0
  pub cells_are : (cell : ℕ) → holds new cell ≡ (holds old cell || cells cell)
  pub edges_are : (e : Edge) → edges_of new e ≡ (edges_of old e || edges e)
  pub added : List Node
  pub nodes : new.nodes ≡ old.nodes ++ added
