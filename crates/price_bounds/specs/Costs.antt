-- What the sets of nets cost together.
use Rattle.std.specs.Prelude.{ℕ, ◌+◌, ◌*◌, ◌≤◌, cond, filter, sum_by, IsTrue, if◌then◌else◌}
use Rattle.std.specs.List.{range_with_len}
use Rattle.gr_base.specs.Capacities.{capacity}
use Rattle.gr_base.specs.Designs.{DesignView, is_routed}
use Rattle.gr_base.specs.EdgeSets.{Edges}
use Rattle.gr_base.specs.Grid.{has_edge}
use Rattle.gr_base.specs.Sums.{wire_at}
use Rattle.gr_base.specs.declared.grid.Edge.{Edge}
use Rattle.price_laws.specs.Prices.{Prices, price, sum_of, JoinsWithin}

-- each routed net has a set of edges that may be used which joins its pins
abbrev pub AreJoined : DesignView → (allowed : Edges) → (sets : ℕ → Edges) → Type 0
AreJoined d allowed sets = (net : ℕ) → IsTrue (is_routed d net) → JoinsWithin d allowed net (sets net)

-- what a net's set costs
abbrev pub cost_of : DesignView → Prices → (sets : ℕ → Edges) → ℕ → ℕ
cost_of d p sets net = sum_of d.frame.shape (sets net) (price d p net)

-- what the sets of the routed nets below a number cost
abbrev pub cost_before : DesignView → Prices → (sets : ℕ → Edges) → ℕ → ℕ
cost_before d p sets count = sum_by (cost_of d p sets) (filter (is_routed d) (range_with_len 0 count))

-- no such sets cost less
abbrev pub IsCostBound : DesignView → Prices → (allowed : Edges) → (count bound : ℕ) → Type 0
IsCostBound d p allowed count bound =
    (sets : ℕ → Edges) → AreJoined d allowed sets → bound ≤ cost_before d p sets count

-- such sets of the routed nets from one number up to another cost no less
abbrev pub IsCostOf : DesignView → Prices → (allowed : Edges) → (from to cost : ℕ) → Type 0
IsCostOf d p allowed from to cost =
    (sets : ℕ → Edges) → AreJoined d allowed sets → cost_before d p sets from + cost ≤ cost_before d p sets to

-- what the weights ask for what an edge holds, if it may be used, and for the one with a number, if it is the grid's
abbrev pub held_of : DesignView → Prices → (allowed : Edges) → Edge → ℕ
held_of d p allowed e = if allowed e then p.weight e * capacity d e else 0

abbrev pub held_numbered : DesignView → Prices → (allowed : Edges) → ℕ → ℕ
held_numbered d p allowed number =
    cond (has_edge d.frame.shape (wire_at number)) (held_of d p allowed (wire_at number)) 0
