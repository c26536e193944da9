-- Plans of nets over loads.
use Rattle.std.proofs.Common.{◌≡◌, ℕ, List, map, Result, Ok, Err, Some, slice_get, IfOk, IsTrue, refl, sym, subst, ◌∙◌}
use Rattle.cost_rules.specs.declared.site.Formula.{Formula}
use Rattle.gr_base.proofs.DesignLemmas.{routed-net}
use Rattle.gr_base.specs.Designs.{DesignView, is_routed, pins_at}
use Rattle.gr_base.specs.Plans.{IsRouteOf, IsRouteOfNet}
use Rattle.gr_base.specs.Sums.{wires_from_cells}
use Rattle.gr_base.specs.Trees.{TreeView}
use Rattle.gr_base.specs.declared.frame.Net.{Net}
use Rattle.grid_demand.proofs.WireLemmas.{table-edge}
use Rattle.grid_demand.specs.LoadSums.{LoadsView}
use Rattle.grid_demand.specs.Tables.{CapacityView, capacity_of}
use Rattle.net_plan.specs.Mazes.{IsMaze}
use Rattle.net_plan.specs.Patterns.{IsPattern}
use Rattle.book_state.specs.Books.{demand, marks, AreLoadsOf}
use Rattle.book_state.specs.declared.entry.Entry.{Entry}
use Rattle.book_state.specs.declared.entry.PlanKind.{PlanKind}
use Rattle.book_state.specs.declared.entry.PlanKind.TheVariants.{Pattern, Maze, Given}
use Rattle.run_histories.proofs.TurnLemmas.{plan-after}
use Rattle.run_histories.specs.Rounds.{IsPlanFor}

-- plans over loads are plans over what the loads are of
pub plan-pattern : (d : DesignView) (formula : Formula) (v : CapacityView) (h : List Entry) (l : LoadsView) (net : ℕ) (kind : PlanKind) (t : TreeView) → v ≡ capacity_of d → AreLoadsOf (capacity_of d) h l →
    kind ≡ Pattern → IsPattern v l formula net (pins_at d net) t → IsRouteOfNet d net t → IsPlanFor d formula h net kind t
plan-pattern d formula v h l net kind t same of is plan routes =
    subst (λ (k : PlanKind). IsPlanFor d formula h net k t) (sym is)
    (record { plan = plan-after d formula (capacity_of d) v h l net Pattern t refl same of plan; routes = routes })

pub plan-maze : (d : DesignView) (formula : Formula) (v : CapacityView) (h : List Entry) (l : LoadsView) (net : ℕ) (kind : PlanKind) (margin : ℕ) (t : TreeView) → v ≡ capacity_of d → AreLoadsOf (capacity_of d) h l →
    kind ≡ Maze margin → IsMaze v l formula net (pins_at d net) margin t → IsRouteOfNet d net t → IsPlanFor d formula h net kind t
plan-maze d formula v h l net kind margin t same of is plan routes =
    subst (λ (k : PlanKind). IsPlanFor d formula h net k t) (sym is)
    (record { plan = plan-after d formula (capacity_of d) v h l net (Maze margin) t refl same of plan; routes = routes })

-- a plan that routes what stands there routes the net
pub routes-net : {E : Type 0} (d : DesignView) (net : ℕ) (r : Result TreeView E) →
    ((wanted : Net) → slice_get d.nets net ≡ Some wanted → IfOk r (IsRouteOf d.frame.shape wanted)) → IfOk r (IsRouteOfNet d net)
routes-net d net (Ok t) routes = λ wanted is. routes wanted is
routes-net d net (Err e) routes = tt

-- it lies in the grid of the loads
pub in-grid : {E : Type 0} (d : DesignView) (net : ℕ) (l : LoadsView) (r : Result TreeView E) → IsTrue (is_routed d net) → l.shape ≡ d.frame.shape →
    ((wanted : Net) → slice_get d.nets net ≡ Some wanted → IfOk r (IsRouteOf d.frame.shape wanted)) → IfOk r (λ t. t.shape ≡ l.shape)
in-grid d net l (Ok t) routed shape routes = let one = routed-net d net routed in (routes one.net one.there).shape ∙ sym shape
in-grid d net l (Err e) routed shape routes = tt

-- a history has loads
pub loads-of : (c : CapacityView) (h : List Entry) → (l : LoadsView) × AreLoadsOf c h l
loads-of c h = (
  record { shape = c.shape; demands = map (demand c h) (wires_from_cells c.shape); marks = map (marks c h) (wires_from_cells c.shape) },
  record {
    shape = refl;
    demand = λ e edge wire. table-edge c.shape (demand c h) e edge wire;
    marks = λ e edge wire. table-edge c.shape (marks c h) e edge wire;
  },
)

-- for a given tree no plan is made
pub given-plan : (d : DesignView) (formula : Formula) (h : List Entry) (net : ℕ) (t : TreeView) → IsRouteOfNet d net t → IsPlanFor d formula h net Given t
given-plan d formula h net t routes =
    let of = loads-of (capacity_of d) h in
    record { plan = record { loads = of.0; there = of.1; plan = tt }; routes = routes }
