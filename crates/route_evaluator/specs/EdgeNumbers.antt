-- The numbers of edges.
use Rattle.std.specs.Prelude.{ℕ, ◌+◌, ◌*◌, ◌/◌, ◌%◌, ◌==◌, Bool, List, if◌then◌else◌}
use Rattle.gr_base.specs.EdgeSets.{Edges}
use Rattle.gr_base.specs.Grid.{edge_at}
use Rattle.gr_base.specs.declared.grid.Edge.{Edge}
use Rattle.gr_base.specs.declared.grid.Way.{Way}
use Rattle.gr_base.specs.declared.grid.Way.TheVariants.{East, North, Up}
use Rattle.route_evaluator.specs.NumberSets.{has_number}

abbrev pub way_number : Way → ℕ
way_number East = 0
way_number North = 1
way_number Up = 2

-- the number of an edge: each cell has three, for its East, its North and its Up edge
abbrev pub edge_number : Edge → ℕ
edge_number e = 3 * e.low + way_number e.way

-- the way of an edge's number
abbrev pub way_numbered : ℕ → Way
way_numbered n = if n % 3 == 0 then East else (if n % 3 == 1 then North else Up)

-- the edge with a number
abbrev pub edge_numbered : ℕ → Edge
edge_numbered n = edge_at (n / 3) (way_numbered n)

-- the set of the edges with these numbers
abbrev pub edges_numbered : List ℕ → Edges
edges_numbered numbers e = has_number numbers (edge_number e)

-- whether the edge with this number is a via edge
abbrev pub is_via_number : ℕ → Bool
is_via_number n = n % 3 == 2
