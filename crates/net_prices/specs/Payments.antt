-- How what was paid for a net rises.
use Rattle.std.specs.Prelude.{◌≡◌, ℕ, ◌+◌, ◌<◌, ◌≤◌, Bool, List, map, slice_index, IsTrue}
use Rattle.gr_base.specs.Designs.{DesignView, pins_at}
use Rattle.gr_base.specs.EdgeSets.{Edges}
use Rattle.gr_base.specs.Grid.{has_edge}
use Rattle.gr_base.specs.Trees.{is_among}
use Rattle.gr_base.specs.declared.grid.Edge.{Edge}
use Rattle.gr_base.specs.declared.grid.Shape.{Shape}
use Rattle.net_prices.specs.Arcs.{arcs_in, nothing}
use Rattle.net_prices.specs.Folds.{folded, IsFoldOf}
use Rattle.price_laws.specs.Prices.{Prices}
use Rattle.price_laws.specs.Ranks.{IsPaid}

-- a table has something for each arc of the edges that may be used
abbrev pub HasArcs : DesignView → (allowed : Edges) → (flat : Bool) → (small : Shape) → (table : List ℕ) → Type 0
HasArcs d allowed flat small table =
    (e : Edge) → (up : Bool) → IsTrue (has_edge d.frame.shape e) → IsTrue (allowed e) →
    arcs_in flat d.frame.shape small table e up < nothing

-- what was paid for any net, by what was left for the arcs of a grid, rises by so much, by what is left now: its pins
-- stand in these cells of that grid, and the driver in this one
abbrev pub IsRaised : Shape → (driver : ℕ) → (pins : List ℕ) → (old new : List ℕ) → (more : ℕ) → Type 0
IsRaised small driver pins old new more =
    (d : DesignView) → (p : Prices) → (allowed : Edges) → (flat : Bool) → (net first paid : ℕ) →
    IsFoldOf flat d.frame.shape small → map (folded flat d.frame.shape) (pins_at d net) ≡ pins →
    folded flat d.frame.shape first ≡ driver → HasArcs d allowed flat small old →
    IsPaid d p allowed net first (arcs_in flat d.frame.shape small old) paid →
    IsPaid d p allowed net first (arcs_in flat d.frame.shape small new) (paid + more)

-- labels by a table allow to pay a distance for a pin
pub record MayPay (table : List ℕ) (driver : ℕ) (pins : List ℕ) (pin distance : ℕ) : Type 0 where
  pub high : distance ≤ slice_index table driver
  pub low : slice_index table pin ≡ 0
  pub among : IsTrue (is_among pins pin)
