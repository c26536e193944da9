-- What prices prove of all sets of edges that join the routed nets.
use Rattle.std.specs.Prelude.{◌≡◌, ℕ, ◌+◌, ◌*◌, ◌≤◌, Bool, List, [], ◌∷◌, All, IsTrue}
use Rattle.gr_base.specs.Capacities.{usable}
use Rattle.gr_base.specs.Designs.{DesignView, IsDesign, is_routed, pins_at}
use Rattle.gr_base.specs.EdgeSets.{Edges}
use Rattle.gr_base.specs.Grid.{is_wire}
use Rattle.gr_base.specs.Sums.{total_over, wirelength}
use Rattle.gr_base.specs.Trees.{is_among}
use Rattle.gr_base.specs.declared.grid.Edge.{Edge}
use Rattle.price_laws.specs.Prices.{Prices, IsNetBound, surplus, any_edge}
use Rattle.price_laws.specs.Ranks.{Arcs, IsPaid, IsLeft, IsTaken}
use Rattle.wall_laws.specs.Spans.{AreUsable}
use Rattle.wall_laws.specs.Walls.{JoinNets}

-- no set that joins a routed net's pins costs less than the net's bound
abbrev pub AreNetBounds : DesignView → Prices → (allowed : Edges) → (bounds : ℕ → ℕ) → Type 0
AreNetBounds d p allowed bounds = (net : ℕ) → IsTrue (is_routed d net) → IsNetBound d p allowed net (bounds net)

-- no weight of a wire edge is above a number
abbrev pub AreWeightsUpTo : ℕ → Prices → Type 0
AreWeightsUpTo most p = (e : Edge) → p.weight e ≤ most

-- the sets of the routed nets have edges alone that may be used
abbrev pub AreWithin : DesignView → (allowed : Edges) → (sets : ℕ → Edges) → Type 0
AreWithin d allowed sets = (net : ℕ) → IsTrue (is_routed d net) → (e : Edge) → IsTrue (sets net e) → IsTrue (allowed e)

-- wirelength at the scale, and overflow times the greatest weight, are together at least the surplus
abbrev pub PriceLaw : Type 0
PriceLaw =
    (d : DesignView) → (p : Prices) → (allowed : Edges) → (bounds : ℕ → ℕ) → (most : ℕ) →
    AreNetBounds d p allowed bounds → AreWeightsUpTo most p →
    (sets : ℕ → Edges) → JoinNets d sets → AreWithin d allowed sets →
    surplus d p allowed bounds ≤ p.scale * wirelength d p.via_cost sets + most * total_over d sets

-- what was paid for a net is at most the price of each set of edges that joins its pins
abbrev pub PaidLaw : Type 0
PaidLaw =
    (d : DesignView) → IsDesign d → (p : Prices) → (allowed : Edges) → (net driver : ℕ) → (pins : List ℕ) →
    pins_at d net ≡ driver ∷ pins → (left : Arcs) → (paid : ℕ) → IsPaid d p allowed net driver left paid →
    IsNetBound d p allowed net paid

-- at first nothing is paid
abbrev pub UnpaidLaw : Type 0
UnpaidLaw =
    (d : DesignView) → (p : Prices) → (allowed : Edges) → (net driver : ℕ) → (left : Arcs) →
    IsLeft d p allowed net left → IsPaid d p allowed net driver left 0

-- where numbers fall from the driver to a pin, and are taken of what is left along each edge as far as they fall along it,
-- as much more is paid
abbrev pub PayingLaw : Type 0
PayingLaw =
    (d : DesignView) → (p : Prices) → (allowed : Edges) → (net driver : ℕ) → (old new : Arcs) → (level : ℕ → ℕ) →
    (paid more pin : ℕ) → IsPaid d p allowed net driver old paid → IsTaken d allowed level old new →
    more ≤ level driver → level pin ≡ 0 → IsTrue (is_among (pins_at d net) pin) →
    IsPaid d p allowed net driver new (paid + more)

-- no edge sets that join the routed nets are below these figures: in overflow, in wirelength where usable edges alone
-- serve and nothing overflows, and in both together along usable edges
pub record ArePriceBounds (d : DesignView) (via_cost over length both : ℕ) : Type 0 where
  pub overflow : (sets : ℕ → Edges) → JoinNets d sets → over ≤ total_over d sets
  pub without_overflow : (sets : ℕ → Edges) → JoinNets d sets → AreUsable d sets → total_over d sets ≡ 0 →
      length ≤ wirelength d via_cost sets
  pub together : (sets : ℕ → Edges) → JoinNets d sets → AreUsable d sets →
      both ≤ wirelength d via_cost sets + total_over d sets
