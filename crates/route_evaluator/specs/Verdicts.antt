-- What a verdict says of routes.
use Rattle.std.specs.Prelude.{◌≡◌, ◌↔◌, ℕ, length, Contains, count_by, IsTrue}
use Rattle.std.specs.List.{range_with_len}
use Rattle.std.specs.List.Sorted.{IsStrictlyIncreasing}
use Rattle.gr_base.specs.Designs.{DesignView, is_routed, pins_at}
use Rattle.gr_base.specs.EdgeSets.{Edges, IsJoined}
use Rattle.gr_base.specs.Grid.{has_edge, is_wire}
use Rattle.gr_base.specs.Sums.{demand as demand_of, total_over, most_over, wirelength as wirelength_of, vias as vias_of}
use Rattle.gr_base.specs.declared.grid.Edge.{Edge}
use Rattle.grid_demand.specs.LoadSums.{LoadsView, demand_at}
use Rattle.route_evaluator.specs.declared.verdict.Verdict.{Verdict}

-- how many nets are routed
abbrev pub routed_nets : DesignView → ℕ
routed_nets d = count_by (is_routed d) (range_with_len 0 (length d.nets))

-- the net is routed, and its set of edges doesn't join its pins
pub record IsUnjoined (d : DesignView) (sets : ℕ → Edges) (net : ℕ) : Type 0 where
  pub routed : IsTrue (is_routed d net)
  pub apart : IsJoined d.frame.shape (sets net) (pins_at d net) → ⊥

-- the demand for each wire edge is that of these sets of edges
pub record AreLoadsBy (d : DesignView) (sets : ℕ → Edges) (l : LoadsView) : Type 0 where
  pub shape : l.shape ≡ d.frame.shape
  pub demand : (e : Edge) → IsTrue (has_edge d.frame.shape e) → IsTrue (is_wire e) → demand_at l e ≡ demand_of d sets e

-- what is said of routes where each net has its set of edges
pub record IsVerdict (d : DesignView) (via_cost : ℕ) (sets : ℕ → Edges) (v : Verdict) : Type 0 where
  pub routed : v.routed ≡ routed_nets d
  pub total : v.total ≡ total_over d sets
  pub max : v.max ≡ most_over d sets
  pub wirelength : v.wirelength ≡ wirelength_of d via_cost sets
  pub vias : v.vias ≡ vias_of d sets
  pub rising : IsStrictlyIncreasing v.unjoined
  pub unjoined : (net : ℕ) → Contains v.unjoined net ↔ IsUnjoined d sets net
