-- What is counted of the nets of a design, one after another.
use Rattle.std.specs.Prelude.{◌≡◌, ◌↔◌, ℕ, ◌+◌, ◌^◌, ◌<◌, ◌≤◌, Bool, List, [], ◌∷◌, ◌++◌, length, Contains, count_by, sum_by, filter, if◌then◌else◌, IsTrue}
use Rattle.std.specs.List.{range_with_len}
use Rattle.std.specs.List.Sorted.{IsStrictlyIncreasing}
use Rattle.gr_base.specs.Capacities.{need}
use Rattle.gr_base.specs.Designs.{DesignView, is_routed}
use Rattle.gr_base.specs.EdgeSets.{Edges}
use Rattle.gr_base.specs.Grid.{has_edge, is_wire}
use Rattle.gr_base.specs.Sums.{wire_edges, via_edges}
use Rattle.gr_base.specs.declared.grid.Edge.{Edge}
use Rattle.grid_demand.specs.LoadSums.{LoadsView, demand_at}
use Rattle.grid_demand.specs.Tables.{CapacityView, capacity_of, need_at}
use Rattle.route_evaluator.specs.Verdicts.{AreLoadsBy, IsUnjoined, IsVerdict}
use Rattle.route_evaluator.specs.declared.net_count.NetCount.{NetCount}
use Rattle.route_evaluator.specs.declared.tally.Tally.{Tally}
use Rattle.route_evaluator.specs.declared.verdict.Verdict.{Verdict}

-- the sum of what f gives for each routed net below a number
abbrev pub sum_before : DesignView → ℕ → (ℕ → ℕ) → ℕ
sum_before d count f = sum_by f (filter (is_routed d) (range_with_len 0 count))

-- the net comes behind the others, unless it is joined
abbrev pub noted : Bool → ℕ → List ℕ → List ℕ
noted joined net nets = if joined then nets else nets ++ net ∷ []

-- the demand is that of the nets below a number
pub record AreCharged (d : DesignView) (sets : ℕ → Edges) (count : ℕ) (l : LoadsView) : Type 0 where
  pub shape : l.shape ≡ d.frame.shape
  pub demand : (e : Edge) → IsTrue (has_edge d.frame.shape e) → IsTrue (is_wire e) →
      demand_at l e ≡ sum_before d count (λ net. if sets net e then need d net e else 0)

-- so many of the nets below a number are routed, with so many wire edges and via edges, and these aren't joined
pub record AreCounted (d : DesignView) (sets : ℕ → Edges) (count nets_in wires_in vias_in : ℕ) (apart : List ℕ) : Type 0 where
  pub routed : nets_in ≡ count_by (is_routed d) (range_with_len 0 count)
  pub wires : wires_in ≡ sum_before d count (λ net. count_by (sets net) (wire_edges d.frame.shape))
  pub vias : vias_in ≡ sum_before d count (λ net. count_by (sets net) (via_edges d.frame.shape))
  pub rising : IsStrictlyIncreasing apart
  pub unjoined : (net : ℕ) → Contains apart net ↔ ((net < count) × IsUnjoined d sets net)

-- the nets below a number are in the tally
abbrev pub AreTallied : DesignView → (ℕ → Edges) → ℕ → Tally → Type 0
AreTallied d sets count t = AreCounted d sets count t.routed t.wires t.vias t.unjoined

-- what is counted of a net is added
abbrev pub with_count : ℕ → NetCount → Tally → Tally
with_count net c t = record {
  wires = t.wires + c.wires;
  vias = t.vias + c.vias;
  routed = t.routed + 1;
  unjoined = noted c.joined net t.unjoined;
}

-- the counts have room for those of one more net
pub record HasRoomFor (nets_in wires_in vias_in : ℕ) (c : NetCount) : Type 0 where
  pub routed : nets_in + 1 < 2 ^ 32
  pub wires : wires_in + c.wires < 2 ^ 64
  pub vias : vias_in + c.vias < 2 ^ 64

-- each wire edge has room for the need of one more net
abbrev pub HasRoom : LoadsView → Type 0
HasRoom l = (e : Edge) → IsTrue (has_edge l.shape e) → IsTrue (is_wire e) → demand_at l e ≤ 2 ^ 47

-- each wire edge of the set gained the net's need, and no other edge anything
abbrev pub IsCharged : CapacityView → ℕ → Edges → (old new : LoadsView) → Type 0
IsCharged c net set old new =
    (e : Edge) → IsTrue (has_edge old.shape e) → IsTrue (is_wire e) →
    demand_at new e ≡ demand_at old e + (if set e then need_at c net e else 0)

-- the verdict says what was counted of all nets of a design with this capacity, where these are their loads
abbrev pub TellsOf : ℕ → CapacityView → LoadsView → Tally → Verdict → Type 0
TellsOf via_cost c l t v =
    (d : DesignView) → (sets : ℕ → Edges) → c ≡ capacity_of d → AreLoadsBy d sets l → AreTallied d sets (length d.nets) t →
    IsVerdict d via_cost sets v
