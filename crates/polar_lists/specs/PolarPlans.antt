-- The plans of a design's routes for a library with inverters.
use Rattle.std.specs.Prelude.{◌≡◌, ℕ, List, Option, Some, None, IsTrue, IsFalse, IsSomeAnd, option_map}
use Rattle.gr_base.specs.Designs.{DesignView, is_routed}
use Rattle.gr_base.specs.Trees.{TreeView, tree_at}
use Rattle.rc_library.specs.Libraries.{LibraryView}
use Rattle.elmore_delay.specs.Loadings.{LoadingView}
use Rattle.elmore_delay.specs.PlanLists.{plan_at}
use Rattle.elmore_delay.specs.declared.plans.Plan.{Plan}
use Rattle.buffer_plan.specs.Best.{time_with}
use Rattle.buffer_plan.specs.Plans.{loading_of}
use Rattle.polar_lists.specs.Polarity.{IsBestLegal, HasNoLegal}
use Rattle.polar_lists.specs.Signals.{picked_legal}

-- the picked legal placement, with which the required time is the greatest of all legal ones, and that time
pub record IsLegalPlan (l : LoadingView) (plan : Plan) : Type 0 where
  pub placement : picked_legal l ≡ Some plan.placement
  pub best : IsBestLegal l plan.placement
  pub required : plan.required ≡ time_with l plan.placement

-- the rule of a library with inverters: the picked legal placement and the required time with it, or none
abbrev pub legal_plan : LoadingView → Option Plan
legal_plan l = option_map (λ p. record { placement = p; required = time_with l p }) (picked_legal l)

-- such a plan, or none where no placement is legal
abbrev pub IsPolarPlan : LoadingView → Option Plan → Type 0
IsPolarPlan l None = HasNoLegal l
IsPolarPlan l (Some plan) = IsLegalPlan l plan

-- for a routed net its tree is there, and the plan is one for it; another net has none
pub record IsNetPlan (d : DesignView) (lib : LibraryView) (trees : List (Option TreeView)) (net : ℕ)
    (plan : Option Plan) : Type 0 where
  pub routed : IsTrue (is_routed d net) → IsSomeAnd (tree_at trees net) (λ t. IsPolarPlan (loading_of d lib net t) plan)
  pub other : IsFalse (is_routed d net) → plan ≡ None

-- each routed net has a tree, and a plan for it exactly where a placement is legal; no other net has a plan
abbrev pub ArePolarPlans : DesignView → LibraryView → List (Option TreeView) → List (Option Plan) → Type 0
ArePolarPlans d lib trees plans = (net : ℕ) → IsNetPlan d lib trees net (plan_at plans net)
