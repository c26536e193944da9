-- Plans by a rule, which gives a net a plan by its loading, or none.
use Rattle.std.specs.Prelude.{◌≡◌, ℕ, ◌+◌, ◌<◌, List, length, map, Option, Some, None, Result, IfOk, IfSome, IsTrue, IsFalse, IsSomeAnd, option_and_then, slice_index_or, if◌then◌else◌}
use Rattle.std.specs.List.{range_with_len}
use Rattle.gr_base.specs.Designs.{DesignView, is_routed}
use Rattle.gr_base.specs.Trees.{TreeView, tree_at}
use Rattle.rc_library.specs.Libraries.{LibraryView}
use Rattle.elmore_delay.specs.Loadings.{LoadingView, IsLoading}
use Rattle.elmore_delay.specs.PlanLists.{plan_at}
use Rattle.elmore_delay.specs.declared.plans.Plan.{Plan}
use Rattle.buffer_plan.specs.Best.{IsAllowed, time_with}
use Rattle.buffer_plan.specs.Picked.{picked}
use Rattle.buffer_plan.specs.Plans.{loading_of}

-- the rule of buffers that invert nothing: the picked placement, and the required time with it
abbrev pub picked_plan : LoadingView → Option Plan
picked_plan l = Some (record { placement = picked l; required = time_with l (picked l) })

-- what a rule gives by a loading; where that is a plan, its placement is allowed
pub record IsRuled (rule : LoadingView → Option Plan) (l : LoadingView) (plan : Option Plan) : Type 0 where
  pub loading : IsLoading l
  pub is : plan ≡ rule l
  pub allowed : IfSome plan (λ p. IsAllowed l p.placement)

-- a routed net has a tree, and what the rule gives by that; another net has no plan
pub record IsByRule (rule : LoadingView → Option Plan) (d : DesignView) (lib : LibraryView)
    (trees : List (Option TreeView)) (net : ℕ) (plan : Option Plan) : Type 0 where
  pub routed : IsTrue (is_routed d net) →
      IsSomeAnd (tree_at trees net) (λ t. IsRuled rule (loading_of d lib net t) plan)
  pub other : IsFalse (is_routed d net) → plan ≡ None

-- plans of the nets from a number on, those that were made
abbrev pub AreByRule : {E : Type 0} → (LoadingView → Option Plan) → (first : ℕ) → DesignView → LibraryView →
    List (Option TreeView) → List (Result (Option Plan) E) → Type 0
AreByRule {E} rule first d lib trees planned = (k : ℕ) (default : Result (Option Plan) E) → k < length planned →
    IfOk (slice_index_or planned k default) (IsByRule rule d lib trees (first + k))

-- the plans of all nets
abbrev pub AreAllByRule : (LoadingView → Option Plan) → DesignView → LibraryView → List (Option TreeView) →
    List (Option Plan) → Type 0
AreAllByRule rule d lib trees plans = (net : ℕ) → IsByRule rule d lib trees net (plan_at plans net)

-- the one plan that a rule gives a net, and those of all nets
abbrev pub plan_by : (LoadingView → Option Plan) → DesignView → LibraryView → List (Option TreeView) → ℕ → Option Plan
plan_by rule d lib trees net =
    if is_routed d net then option_and_then (λ t. rule (loading_of d lib net t)) (tree_at trees net) else None

abbrev pub plans_by : (LoadingView → Option Plan) → DesignView → LibraryView → List (Option TreeView) →
    List (Option Plan)
plans_by rule d lib trees = map (plan_by rule d lib trees) (range_with_len 0 (length d.nets))
