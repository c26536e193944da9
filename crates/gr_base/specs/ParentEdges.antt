-- The edges from the nodes of a tree to their parents, and how they are told from the numbers of cells.
use Rattle.std.specs.Prelude.{◌≡◌, ℕ, ◌⊎◌, ◌&&◌, ◌==◌, nat_lt, Option, Some, None, slice_get, option_and_then, if◌then◌else◌}
use Rattle.gr_base.specs.Grid.{AreNeighbours, edge_at, is_wire}
use Rattle.gr_base.specs.Trees.{TreeView, edge_to_parent}
use Rattle.gr_base.specs.declared.grid.Edge.{Edge}
use Rattle.gr_base.specs.declared.grid.Shape.{Shape}
use Rattle.gr_base.specs.declared.grid.Way.{Way}
use Rattle.gr_base.specs.declared.grid.Way.TheVariants.{East, North, Up}

-- the edge from the node with this number to its parent
abbrev pub parent_edge : TreeView → ℕ → Option Edge
parent_edge t node = option_and_then (edge_to_parent t.shape t.nodes) (slice_get t.nodes node)

-- the way from a cell to a neighbour whose number is greater by n
abbrev pub way_apart : Shape → ℕ → Way
way_apart g n = if n == 1 && nat_lt 1 g.columns then East else (if n == g.columns && nat_lt 1 g.rows then North else Up)

-- the edge from a cell to the one whose number is greater by n, where the two are one or neighbours
abbrev pub edge_apart : Shape → ℕ → ℕ → Option Edge
edge_apart g low n = if n == 0 then None else Some (edge_at low (way_apart g n))

-- the edge, if it is a wire edge
abbrev pub wire_only : Option Edge → Option Edge
wire_only o = option_and_then (λ (e : Edge). if is_wire e then Some e else None) o

-- the edge from the node with this number to its parent, if it is a wire edge
abbrev pub wire_to_parent : TreeView → ℕ → Option Edge
wire_to_parent t node = wire_only (parent_edge t node)

-- the two are one cell or neighbours
abbrev pub AreNear : Shape → ℕ → ℕ → Type 0
AreNear g a b = (a ≡ b) ⊎ AreNeighbours g a b
