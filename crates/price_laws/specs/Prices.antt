-- What edges cost at prices that count more than their length: a weight on each wire edge, times what a net takes of it.
use Rattle.std.specs.Prelude.{ℕ, ◌+◌, ◌*◌, ◌-◌, ◌≤◌, Bool, true, List, ◌++◌, sum_by, IsTrue, if◌then◌else◌}
use Rattle.gr_base.specs.Capacities.{capacity, need}
use Rattle.gr_base.specs.Designs.{DesignView, is_routed, pins_at}
use Rattle.gr_base.specs.EdgeSets.{Edges, IsJoined}
use Rattle.gr_base.specs.Grid.{has_edge, is_wire}
use Rattle.gr_base.specs.Sums.{wire_edges, via_edges, sum_routed}
use Rattle.gr_base.specs.declared.grid.Edge.{Edge}
use Rattle.gr_base.specs.declared.grid.Shape.{Shape}

-- prices: what a wire edge costs by its length alone, how many wire edges a via edge counts as, and a weight on each wire
-- edge, which a net pays for each unit that it takes
pub record Prices : Type 0 where
  pub scale : ℕ
  pub via_cost : ℕ
  pub weight : Edge → ℕ

-- what an edge costs a net
abbrev pub price : DesignView → Prices → ℕ → Edge → ℕ
price d p net e = if is_wire e then p.scale + need d net e * p.weight e else p.scale * p.via_cost

-- the grid's edges
abbrev pub all_edges : Shape → List Edge
all_edges g = wire_edges g ++ via_edges g

-- the sum over the edges of a set
abbrev pub sum_of : Shape → Edges → (Edge → ℕ) → ℕ
sum_of g set f = sum_by (λ e. if set e then f e else 0) (all_edges g)

-- the set has edges of the grid alone, of those that may be used, and joins the net's pins
pub record JoinsWithin (d : DesignView) (allowed : Edges) (net : ℕ) (set : Edges) : Type 0 where
  pub inside : (e : Edge) → IsTrue (set e) → IsTrue (has_edge d.frame.shape e)
  pub within : (e : Edge) → IsTrue (set e) → IsTrue (allowed e)
  pub joined : IsJoined d.frame.shape set (pins_at d net)

-- no set of edges that may be used and that joins the net's pins costs less
abbrev pub IsNetBound : DesignView → Prices → (allowed : Edges) → (net : ℕ) → ℕ → Type 0
IsNetBound d p allowed net bound =
    (set : Edges) → JoinsWithin d allowed net set → bound ≤ sum_of d.frame.shape set (price d p net)

-- what the weights ask for all that the edges hold which may be used
abbrev pub held_price : DesignView → Prices → (allowed : Edges) → ℕ
held_price d p allowed =
    sum_by (λ e. if allowed e then p.weight e * capacity d e else 0) (wire_edges d.frame.shape)

-- by how much the routed nets' bounds are more than that, or 0
abbrev pub surplus : DesignView → Prices → (allowed : Edges) → (bounds : ℕ → ℕ) → ℕ
surplus d p allowed bounds = sum_routed d bounds - held_price d p allowed

-- every edge may be used
abbrev pub any_edge : Edges
any_edge e = true
