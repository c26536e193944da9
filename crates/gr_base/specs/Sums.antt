-- Sums over the nets and edges of a design: demand, overflow, wirelength and vias.
use Rattle.std.specs.Prelude.{ℕ, ◌+◌, ◌-◌, ◌*◌, ◌/◌, ◌%◌, ◌==◌, max, List, map, filter, fold, sum_by, count_by, length, if◌then◌else◌}
use Rattle.std.specs.List.{range_with_len}
use Rattle.gr_base.specs.Capacities.{need, capacity}
use Rattle.gr_base.specs.Designs.{DesignView, is_routed}
use Rattle.gr_base.specs.EdgeSets.{Edges, is_way}
use Rattle.gr_base.specs.Grid.{cells_of, edge_at, has_edge}
use Rattle.gr_base.specs.declared.grid.Edge.{Edge}
use Rattle.gr_base.specs.declared.grid.Shape.{Shape}
use Rattle.gr_base.specs.declared.grid.Way.TheVariants.{East, North, Up}

-- wire edges by number: each cell's East edge, then its North edge
abbrev pub wire_at : ℕ → Edge
wire_at number = edge_at (number / 2) (if number % 2 == 0 then East else North)

-- the number of a wire edge
abbrev pub wire_number : Edge → ℕ
wire_number e = 2 * e.low + (if is_way e.way North then 1 else 0)

-- the East and North edges from each cell, of which those that leave the grid are none of its edges
abbrev pub wires_from_cells : Shape → List Edge
wires_from_cells g = map wire_at (range_with_len 0 (2 * cells_of g))

-- the grid's wire edges
abbrev pub wire_edges : Shape → List Edge
wire_edges g = filter (has_edge g) (wires_from_cells g)

-- the grid's via edges
abbrev pub via_edges : Shape → List Edge
via_edges g = filter (has_edge g) (map (λ cell. edge_at cell Up) (range_with_len 0 (cells_of g)))

-- by how much the demand for an edge is over its capacity, or 0
abbrev pub overflow : (Edge → ℕ) → (Edge → ℕ) → Edge → ℕ
overflow demands capacities e = demands e - capacities e

-- the sum of the overflow of all wire edges
abbrev pub total_overflow : Shape → (Edge → ℕ) → (Edge → ℕ) → ℕ
total_overflow g demands capacities = sum_by (overflow demands capacities) (wire_edges g)

-- the greatest overflow of a wire edge, or 0 where there is none
abbrev pub most_overflow : Shape → (Edge → ℕ) → (Edge → ℕ) → ℕ
most_overflow g demands capacities = fold max 0 (map (overflow demands capacities) (wire_edges g))

-- the sum of what f gives for each routed net
abbrev pub sum_routed : DesignView → (ℕ → ℕ) → ℕ
sum_routed d f = sum_by f (filter (is_routed d) (range_with_len 0 (length d.nets)))

-- the demand for an edge: what the routed nets take of it whose sets have it
abbrev pub demand : DesignView → (ℕ → Edges) → Edge → ℕ
demand d sets e = sum_routed d (λ net. if sets net e then need d net e else 0)

-- the total and the greatest overflow where each routed net has its set of edges
abbrev pub total_over : DesignView → (ℕ → Edges) → ℕ
total_over d sets = total_overflow d.frame.shape (demand d sets) (capacity d)

abbrev pub most_over : DesignView → (ℕ → Edges) → ℕ
most_over d sets = most_overflow d.frame.shape (demand d sets) (capacity d)

-- how many via edges the sets of the routed nets have together
abbrev pub vias : DesignView → (ℕ → Edges) → ℕ
vias d sets = sum_routed d (λ net. count_by (sets net) (via_edges d.frame.shape))

-- how many wire edges the sets of the routed nets have together, each via edge counting as much as the via cost
abbrev pub wirelength : DesignView → ℕ → (ℕ → Edges) → ℕ
wirelength d via_cost sets =
    sum_routed d (λ net. count_by (sets net) (wire_edges d.frame.shape)) + via_cost * vias d sets
