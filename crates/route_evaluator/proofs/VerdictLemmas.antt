-- What the counts of all nets say.
use Rattle.std.proofs.Common.{◌≡◌, ◌↔◌, ℕ, ◌+◌, ◌<◌, List, length, Contains, false, if◌then◌else◌, IsTrue, refl, sym, ap, subst, ◌∙◌}
use Rattle.std.proofs.Math.Path.{fun_ext}
use Rattle.std.proofs.lemmas.Bool.{both_ways}
use Rattle.gr_base.proofs.DesignLemmas.{routed-below}
use Rattle.gr_base.specs.Capacities.{need, capacity}
use Rattle.gr_base.specs.Designs.{DesignView, is_routed}
use Rattle.gr_base.specs.EdgeSets.{Edges}
use Rattle.gr_base.specs.Grid.{has_edge, is_wire}
use Rattle.gr_base.specs.Sums.{total_overflow, most_overflow, total_over, most_over}
use Rattle.gr_base.specs.declared.grid.Edge.{Edge}
use Rattle.gr_base.specs.declared.grid.Shape.{Shape}
use Rattle.grid_demand.specs.LoadSums.{LoadsView, demand_at, no_loads}
use Rattle.grid_demand.proofs.LoadLemmas.{total_overflow-same, most_overflow-same}
use Rattle.grid_demand.proofs.OperationLemmas.{demand-none}
use Rattle.route_evaluator.specs.Counts.{sum_before, AreCharged, AreTallied}
use Rattle.route_evaluator.specs.Verdicts.{AreLoadsBy, IsUnjoined, IsVerdict}
use Rattle.route_evaluator.specs.declared.tally.Tally.{Tally}
use Rattle.route_evaluator.specs.declared.verdict.Verdict.{Verdict}
use Rattle.route_evaluator.proofs.StepLemmas.{sum-skip, routed-skip, listed-skip}

-- what is said of some sets of edges holds of others that have the same edges
pub verdict-same : (d : DesignView) (via_cost : ℕ) (sets others : ℕ → Edges) (v : Verdict) → ((net : ℕ) (e : Edge) → sets net e ≡ others net e) →
    IsVerdict d via_cost sets v → IsVerdict d via_cost others v
verdict-same d via_cost sets others v same is =
    let path : sets ≡ others = fun_ext (λ net. fun_ext (λ e. same net e)) in
    subst (λ (s : ℕ → Edges). IsVerdict d via_cost s v) path is

-- the overflow of the demand that was counted
pub total-is : (d : DesignView) (sets : ℕ → Edges) (loads : LoadsView) (total : ℕ) → loads.shape ≡ d.frame.shape →
    ((e : Edge) → IsTrue (has_edge d.frame.shape e) → IsTrue (is_wire e) → demand_at loads e ≡ sum_before d (length d.nets) (λ net. if sets net e then need d net e else 0)) →
    total ≡ total_overflow loads.shape (demand_at loads) (capacity d) → total ≡ total_over d sets
total-is d sets loads total shape demand is =
    is ∙ ap (λ (g : Shape). total_overflow g (demand_at loads) (capacity d)) shape
    ∙ total_overflow-same d.frame.shape (demand_at loads) _ (capacity d) (capacity d) demand (λ e edge wire. refl)

pub most-is : (d : DesignView) (sets : ℕ → Edges) (loads : LoadsView) (most : ℕ) → loads.shape ≡ d.frame.shape →
    ((e : Edge) → IsTrue (has_edge d.frame.shape e) → IsTrue (is_wire e) → demand_at loads e ≡ sum_before d (length d.nets) (λ net. if sets net e then need d net e else 0)) →
    most ≡ most_overflow loads.shape (demand_at loads) (capacity d) → most ≡ most_over d sets
most-is d sets loads most shape demand is =
    is ∙ ap (λ (g : Shape). most_overflow g (demand_at loads) (capacity d)) shape
    ∙ most_overflow-same d.frame.shape (demand_at loads) _ (capacity d) (capacity d) demand (λ e edge wire. refl)

-- each net that isn't joined is one of the design's
pub unjoined-all : (d : DesignView) (sets : ℕ → Edges) (nets : List ℕ) → ((net : ℕ) → Contains nets net ↔ ((net < length d.nets) × IsUnjoined d sets net)) →
    (net : ℕ) → Contains nets net ↔ IsUnjoined d sets net
unjoined-all d sets nets listed net = (
  λ has. ((listed net).0 has).1,
  λ u. (listed net).1 (routed-below d net u.routed, u),
)

-- before any net there is no demand
pub charged-none : (d : DesignView) (sets : ℕ → Edges) (l : LoadsView) → l ≡ no_loads d.frame.shape → AreCharged d sets 0 l
charged-none d sets l is =
    subst (λ (m : LoadsView). AreCharged d sets 0 m) (sym is) (record {
      shape = refl;
      demand = λ e edge wire. demand-none d.frame.shape e (record { edge = edge; wire = wire });
    })

-- the demand of all nets is that of the routes
pub loads-by : (d : DesignView) (sets : ℕ → Edges) (l : LoadsView) → AreCharged d sets (length d.nets) l → AreLoadsBy d sets l
loads-by d sets l charged = record { shape = charged.shape; demand = charged.demand }

-- a net that isn't routed takes nothing
pub charged-skip : (d : DesignView) (sets : ℕ → Edges) (k : ℕ) (l : LoadsView) → is_routed d k ≡ false → AreCharged d sets k l → AreCharged d sets (k + 1) l
charged-skip d sets k l off charged = record {
  shape = charged.shape;
  demand = λ e edge wire. charged.demand e edge wire ∙ sym (sum-skip d (λ net. if sets net e then need d net e else 0) k off);
}

-- a net that isn't routed counts nothing
pub tallied-skip : (d : DesignView) (sets : ℕ → Edges) (k : ℕ) (t : Tally) → is_routed d k ≡ false → AreTallied d sets k t → AreTallied d sets (k + 1) t
tallied-skip d sets k t off counted =
    let listed = listed-skip d sets k t.unjoined (λ u. both_ways (is_routed d k) off u.routed) (record { rising = counted.rising; unjoined = counted.unjoined }) in
    record {
      routed = counted.routed ∙ sym (routed-skip d k off);
      wires = counted.wires ∙ sym (sum-skip d _ k off);
      vias = counted.vias ∙ sym (sum-skip d _ k off);
      rising = listed.rising;
      unjoined = listed.unjoined;
    }
