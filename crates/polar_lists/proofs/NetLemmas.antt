-- The plans of routed nets by a library with inverters.
use Rattle.std.proofs.Common.{◌≡◌, ℕ, List, Option, Some, None, Result, Ok, Err, IfOk, refl, sym, ap, subst, ◌∙◌}
use Rattle.std.specs.Option.{option_map, IfSome, IsSomeAnd}
use Rattle.gr_base.specs.Designs.{DesignView}
use Rattle.gr_base.specs.Trees.{TreeView, tree_at}
use Rattle.rc_library.specs.Libraries.{LibraryView}
use Rattle.elmore_delay.specs.Loadings.{LoadingView, IsLoading}
use Rattle.elmore_delay.specs.PlanLists.{plan_at}
use Rattle.elmore_delay.specs.declared.plans.Plan.{Plan}
use Rattle.buffer_plan.specs.Best.{IsAllowed, time_with}
use Rattle.buffer_plan.specs.Plans.{loading_of}
use Rattle.buffer_plan.specs.Rules.{IsRuled, IsByRule, AreAllByRule}
use Rattle.polar_lists.specs.PolarPlans.{legal_plan, IsPolarPlan, IsNetPlan, ArePolarPlans}
use Rattle.polar_lists.specs.Signals.{picked_legal}
use Rattle.polar_lists.proofs.LegalLemmas.{picked-best, none-picked}

-- a plan with the picked legal placement and the required time with it is by the rule
legal-is : (l : LoadingView) (plan : Option Plan) → picked_legal l ≡ option_map (λ (p : Plan). p.placement) plan →
    IfSome plan (λ (p : Plan). p.required ≡ time_with l p.placement) → plan ≡ legal_plan l
legal-is l None picked required = sym (ap (option_map (planned l)) picked)
  where
    planned : LoadingView → List (Option ℕ) → Plan
    planned m p = record { placement = p; required = time_with m p }
legal-is l (Some plan) picked required =
    sym (ap (option_map (planned l)) picked ∙ ap (λ r. Some (record { placement = plan.placement; required = r })) (sym required))
  where
    planned : LoadingView → List (Option ℕ) → Plan
    planned m p = record { placement = p; required = time_with m p }

-- its placement is allowed
legal-allowed : (l : LoadingView) (plan : Option Plan) → IsLoading l → picked_legal l ≡ option_map (λ (p : Plan). p.placement) plan →
    IfSome plan (λ (p : Plan). IsAllowed l p.placement)
legal-allowed l None loading picked = tt
legal-allowed l (Some plan) loading picked = (picked-best l loading plan.placement picked).legal.allowed

-- what the rule gives is the best legal plan, or none where none is legal
polar-plan : (l : LoadingView) (o : Option (List (Option ℕ))) → IsLoading l → picked_legal l ≡ o →
    IsPolarPlan l (option_map (λ p. record { placement = p; required = time_with l p }) o)
polar-plan l None loading is = none-picked l loading is
polar-plan l (Some p) loading is = record { placement = is; best = picked-best l loading p is; required = refl }

pub net-plan : (d : DesignView) (lib : LibraryView) (trees : List (Option TreeView)) (net : ℕ) (plan : Option Plan) →
    IsByRule legal_plan d lib trees net plan → IsNetPlan d lib trees net plan
net-plan d lib trees net plan is = record { routed = λ routed. by (tree_at trees net) (is.routed routed); other = is.other }
  where
    by : (o : Option TreeView) → IsSomeAnd o (λ t. IsRuled legal_plan (loading_of d lib net t) plan) →
        IsSomeAnd o (λ t. IsPolarPlan (loading_of d lib net t) plan)
    by None there = absurd there
    by (Some t) there =
        let l = loading_of d lib net t in
        subst (IsPolarPlan l) (sym there.is) (polar-plan l (picked_legal l) there.loading refl)

pub all-legal : {F : Type 0} (d : DesignView) (lib : LibraryView) (trees : List (Option TreeView)) (result : Result (List (Option Plan)) F) →
    IfOk result (AreAllByRule legal_plan d lib trees) → IfOk result (ArePolarPlans d lib trees)
all-legal d lib trees (Ok plans) are = λ net. net-plan d lib trees net (plan_at plans net) (are net)
all-legal d lib trees (Err e) are = tt

-- of what the planner gives: it is by the rule, and allowed
pub result-is : {E : Type 0} (l : LoadingView) (result : Result (Option Plan) E) →
    IfOk result (λ plan. picked_legal l ≡ option_map (λ (p : Plan). p.placement) plan) →
    IfOk result (λ plan. IfSome plan (λ (p : Plan). p.required ≡ time_with l p.placement)) → IfOk result (λ plan. plan ≡ legal_plan l)
result-is l (Ok plan) picked required = legal-is l plan picked required
result-is l (Err e) picked required = tt

pub result-allowed : {E : Type 0} (l : LoadingView) (result : Result (Option Plan) E) →
    IfOk result (λ plan. picked_legal l ≡ option_map (λ (p : Plan). p.placement) plan) → IfOk result (λ _. IsLoading l) →
    IfOk result (λ plan. IfSome plan (λ (p : Plan). IsAllowed l p.placement))
result-allowed l (Ok plan) picked loading = legal-allowed l plan loading picked
result-allowed l (Err e) picked loading = tt
