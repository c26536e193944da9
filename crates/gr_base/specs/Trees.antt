-- Trees of cells, and the walks that are hung on them.
use Rattle.std.specs.Prelude.{◌≡◌, ℕ, ◌+◌, ◌-◌, ◌<◌, ◌≤◌, Bool, false, ◌||◌, ◌==◌, List, [], ◌∷◌, ◌++◌, length, All, Option, Some, None, is_some, unwrap_or, slice_get, IsSomeAnd, if◌then◌else◌, IsTrue}
use Rattle.std.specs.List.{list_any, filter_map, count_by}
use Rattle.std.specs.Option.{option_map, option_and_then, option_to_list}
use Rattle.gr_base.specs.Grid.{cells_of, AreNeighbours, edge_of, has_edge}
use Rattle.gr_base.specs.EdgeSets.{Edges, is_edge, set_of, Leads}
use Rattle.gr_base.specs.declared.grid.Edge.{Edge}
use Rattle.gr_base.specs.declared.grid.Shape.{Shape}
use Rattle.gr_base.specs.declared.tree.Node.{Node}

-- a tree on a grid: its nodes in the order in which they were added
pub record TreeView : Type 0 where
  pub shape : Shape
  pub nodes : List Node

abbrev pub node_of : ℕ → ℕ → Node
node_of cell parent = record { cell = cell; parent = parent }

-- the cell and the parent of the node with this number
abbrev pub cell_at : List Node → ℕ → Option ℕ
cell_at nodes number = option_map (λ (node : Node). node.cell) (slice_get nodes number)

abbrev pub parent_at : List Node → ℕ → Option ℕ
parent_at nodes number = option_map (λ (node : Node). node.parent) (slice_get nodes number)

-- the node has this cell
abbrev pub has_cell : ℕ → Node → Bool
has_cell cell node = node.cell == cell

-- the number of the first node with this cell, where the first of the list has the number given
abbrev pub node_from : ℕ → List Node → ℕ → Option ℕ
node_from number [] cell = None
node_from number (node ∷ nodes) cell = if has_cell cell node then Some number else node_from (number + 1) nodes cell

-- the number of the node with this cell
abbrev pub node_with : List Node → ℕ → Option ℕ
node_with nodes cell = node_from 0 nodes cell

-- some node has this cell
abbrev pub holds : TreeView → ℕ → Bool
holds t cell = is_some (node_with t.nodes cell)

-- the first node is its own parent; the parent of another is an earlier node, in a neighbouring cell
abbrev pub IsParent : Shape → List Node → Node → Type 0
IsParent g [] node = node.parent ≡ 0
IsParent g (root ∷ others) node = IsSomeAnd (cell_at (root ∷ others) node.parent) (λ cell. AreNeighbours g node.cell cell)

-- a node hangs on those before it: its cell is inside the grid and none of theirs
pub record Hangs (g : Shape) (before : List Node) (node : Node) : Type 0 where
  pub inside : node.cell < cells_of g
  pub fresh : node_with before node.cell ≡ None
  pub parent : IsParent g before node

-- each of these nodes hangs on those before it
abbrev pub AllHang : Shape → List Node → List Node → Type 0
AllHang g before [] = Unit {0}
AllHang g before (node ∷ nodes) = Hangs g before node × AllHang g (before ++ node ∷ []) nodes

-- a tree has a first node, and each node hangs on the earlier ones
pub record IsTree (t : TreeView) : Type 0 where
  pub rooted : 0 < length t.nodes
  pub hanging : AllHang t.shape [] t.nodes

-- the edge between a node's cell and its parent's; the first node has none, since it is its own parent
abbrev pub edge_to_parent : Shape → List Node → Node → Option Edge
edge_to_parent g nodes node = option_and_then (λ cell. edge_of g node.cell cell) (cell_at nodes node.parent)

-- the edges of a tree, in the order of its nodes
abbrev pub tree_edges : TreeView → List Edge
tree_edges t = filter_map (edge_to_parent t.shape t.nodes) t.nodes

abbrev pub edges_of : TreeView → Edges
edges_of t = set_of (tree_edges t)

-- the tree's edges all are edges of the grid
abbrev pub HasGridEdges : TreeView → Type 0
HasGridEdges t = All (λ e. IsTrue (has_edge t.shape e)) (tree_edges t)

-- no edge stands twice among the tree's edges
abbrev pub HasDistinctEdges : TreeView → Type 0
HasDistinctEdges t = (e : Edge) → count_by (is_edge e) (tree_edges t) ≤ 1

-- along the tree's edges a walk leads from each of its cells to each other
abbrev pub IsConnected : TreeView → Type 0
IsConnected t = (a b : ℕ) → IsTrue (holds t a) → IsTrue (holds t b) → Leads t.shape (edges_of t) a b

-- one of these cells is this one
abbrev pub is_among : List ℕ → ℕ → Bool
is_among cells cell = list_any (λ other. other == cell) cells

-- a step of a walk to the tree: from a new cell, which the walk doesn't pass again, to a neighbour
pub record IsStep (t : TreeView) (cell next : ℕ) (after : List ℕ) : Type 0 where
  pub inside : cell < cells_of t.shape
  pub outside : holds t cell ≡ false
  pub once : is_among (next ∷ after) cell ≡ false
  pub neighbours : AreNeighbours t.shape cell next

-- the walk leads from cell to neighbouring cell, none twice, to its last cell, which alone is in the tree
abbrev pub IsWalkTo : TreeView → List ℕ → Type 0
IsWalkTo t [] = ⊥
IsWalkTo t (last ∷ []) = IsTrue (holds t last)
IsWalkTo t (cell ∷ next ∷ after) = IsStep t cell next after × IsWalkTo t (next ∷ after)

-- these nodes and one more with the cell, whose parent is the node of its neighbour
abbrev pub hung : List Node → ℕ → ℕ → List Node
hung nodes cell next = nodes ++ node_of cell (unwrap_or (node_with nodes next) 0) ∷ []

-- the nodes after a walk to the tree is attached, from the tree outwards: each cell hangs on the next
abbrev pub grown : List Node → List ℕ → List Node
grown nodes [] = nodes
grown nodes (last ∷ []) = nodes
grown nodes (cell ∷ next ∷ after) = hung (grown nodes (next ∷ after)) cell next

-- the tree with the walk attached
abbrev pub attached : TreeView → List ℕ → TreeView
attached t walk = record { shape = t.shape; nodes = grown t.nodes walk }

-- these are the nodes after the walk is attached to a tree of the old ones, in which its last cell's node has this number
abbrev pub Grows : List Node → List ℕ → ℕ → List Node → Type 0
Grows old walk number new =
    (t : TreeView) → IsTree t → t.nodes ≡ old → IsWalkTo t walk → cell_at old number ≡ slice_get walk (length walk - 1) → new ≡ grown old walk

-- the new tree begins with the old one's nodes
pub record Begins (old new : TreeView) : Type 0 where
  pub shape : new.shape ≡ old.shape
  pub added : List Node
  pub nodes : new.nodes ≡ old.nodes ++ added

-- the new tree has the old one's cells and the walk's, and no others
abbrev pub AddsCells : TreeView → List ℕ → TreeView → Type 0
AddsCells old walk new = (cell : ℕ) → holds new cell ≡ (holds old cell || is_among walk cell)

-- the edges between each of these cells and the next
abbrev pub walk_edges : Shape → List ℕ → List Edge
walk_edges g [] = []
walk_edges g (last ∷ []) = []
walk_edges g (cell ∷ next ∷ after) = option_to_list (edge_of g cell next) ++ walk_edges g (next ∷ after)

-- the new tree has the old one's edges and the walk's, and no others
abbrev pub AddsEdges : TreeView → List ℕ → TreeView → Type 0
AddsEdges old walk new = (e : Edge) → edges_of new e ≡ (edges_of old e || set_of (walk_edges old.shape walk) e)

-- the edges of a tree, or none where there is no tree
abbrev pub edges_or_none : Option TreeView → Edges
edges_or_none None e = false
edges_or_none (Some t) e = edges_of t e

-- the tree of a net, if one was set
abbrev pub tree_at : List (Option TreeView) → ℕ → Option TreeView
tree_at trees net = option_and_then (λ tree. tree) (slice_get trees net)

-- the edges of each net's tree
abbrev pub route_edges : List (Option TreeView) → ℕ → Edges
route_edges trees net = edges_or_none (tree_at trees net)
