-- The plans of buffers of a design's routes.
use Rattle.std.specs.Prelude.{◌≡◌, ℕ, List, Option, None, IsTrue, IsFalse, IsSomeAnd}
use Rattle.gr_base.specs.Designs.{DesignView, is_routed, pins_at}
use Rattle.gr_base.specs.Plans.{IsRouteOfNet}
use Rattle.gr_base.specs.Trees.{TreeView, tree_at}
use Rattle.rc_library.specs.Libraries.{LibraryView}
use Rattle.elmore_delay.specs.Loadings.{LoadingView}
use Rattle.elmore_delay.specs.PlanLists.{plan_at}
use Rattle.elmore_delay.specs.declared.plans.Plan.{Plan}
use Rattle.buffer_plan.specs.Best.{IsBest, time_with}
use Rattle.buffer_plan.specs.Picked.{picked}

-- each routed net has a tree that routes it
abbrev pub AreRoutesOf : DesignView → List (Option TreeView) → Type 0
AreRoutesOf d trees = (net : ℕ) → IsTrue (is_routed d net) → IsSomeAnd (tree_at trees net) (IsRouteOfNet d net)

-- a net's tree with what a library says of it
abbrev pub loading_of : DesignView → LibraryView → ℕ → TreeView → LoadingView
loading_of d lib net t = record { library = lib; net = net; pins = pins_at d net; tree = t }

-- the picked placement, with which the required time is the greatest, and that time
pub record IsPlan (l : LoadingView) (plan : Plan) : Type 0 where
  pub placement : plan.placement ≡ picked l
  pub best : IsBest l plan.placement
  pub required : plan.required ≡ time_with l plan.placement

-- a routed net has a tree, and a plan for it; another net has none
pub record IsPlanned (d : DesignView) (lib : LibraryView) (trees : List (Option TreeView)) (net : ℕ)
    (plan : Option Plan) : Type 0 where
  pub routed : IsTrue (is_routed d net) →
      IsSomeAnd (tree_at trees net) (λ t. IsSomeAnd plan (IsPlan (loading_of d lib net t)))
  pub other : IsFalse (is_routed d net) → plan ≡ None

-- exactly the routed nets have plans
abbrev pub ArePlans : DesignView → LibraryView → List (Option TreeView) → List (Option Plan) → Type 0
ArePlans d lib trees plans = (net : ℕ) → IsPlanned d lib trees net (plan_at plans net)
