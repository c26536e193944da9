-- The plans of routed nets, net by net.
use Rattle.std.proofs.Common.{◌≡◌, ℕ, inl, inr, ◌<◌, ◌≤◌, ◌+◌, List, length, get_or, map, slice_set, All, false, Option, Some, None, Result, Ok, Err, IfOk, IsTrue, refl, sym, ap, subst, ◌∙◌, arith}
use Rattle.std.specs.Borrow.{Bor}
use Rattle.std.specs.Option.{option_and_then, option_copied, IfSome, IsSomeAnd}
use Rattle.std.specs.Result.{IsErr}
use Rattle.std.proofs.lemmas.Bool.{cases_eq, cases_lt, true≢false}
use Rattle.std.proofs.lemmas.List.{length-map, length-set, get_or-map, get_or-set_same, get_or-set_other}
use Rattle.std.proofs.lemmas.Option.{slice_get-get_or, slice_get_past}
use Rattle.gr_base.specs.Designs.{DesignView, is_routed_net, is_routed}
use Rattle.gr_base.specs.Trees.{TreeView, tree_at}
use Rattle.gr_base.proofs.General.{and-some}
use Rattle.gr_base.specs.Plans.{IsRouteOfNet}
use Rattle.rc_library.specs.Libraries.{LibraryView}
use Rattle.elmore_delay.specs.Loadings.{LoadingView}
use Rattle.elmore_delay.specs.PlanLists.{plan_at}
use Rattle.elmore_delay.specs.declared.plans.Plan.{Plan}
use Rattle.buffer_plan.specs.Plans.{AreRoutesOf, loading_of, IsPlan, IsPlanned, ArePlans}
use Rattle.buffer_plan.specs.Rules.{picked_plan, IsRuled, IsByRule, AreByRule, AreAllByRule}
use Rattle.buffer_plan.proofs.BestLemmas.{picked-is_best}
use Rattle.buffer_plan.proofs.Members.{element-at}

-- the tree of a routed net is one of the design's grid
pub tree-shape : (d : DesignView) (trees : List (Option TreeView)) (net : ℕ) (o : Option (Bor TreeView)) → IsTrue (is_routed d net) → net < length d.nets →
    AreRoutesOf d trees → option_copied o ≡ tree_at trees net → IfSome o (λ (tree : Bor TreeView). tree.now.shape ≡ d.frame.shape)
tree-shape d trees net None routed below routes is = tt
tree-shape d trees net (Some tree) routed below routes is =
    let there = element-at d.nets net below in
    (and-some (IsRouteOfNet d net) (tree_at trees net) tree.now (sym is) (routes net routed) there.0 there.1).shape

-- a net that the design has not isn't routed
pub not-routed : (d : DesignView) (net : ℕ) → length d.nets ≤ net → is_routed d net ≡ false
not-routed d net past = ap is_routed_net (slice_get_past d.nets net past)

pub get-plan : (plans : List (Option Plan)) (net : ℕ) → net < length plans → plan_at plans net ≡ get_or plans net None
get-plan plans net below = ap (option_and_then (λ (plan : Option Plan). plan)) (slice_get-get_or plans net None below)

pub plan-past : (plans : List (Option Plan)) (net : ℕ) → length plans ≤ net → plan_at plans net ≡ None
plan-past plans net past = ap (option_and_then (λ (plan : Option Plan). plan)) (slice_get_past plans net past)

-- what isn't made says nothing
err-plan : {A E : Type 0} (P : A → Type 0) (r : Result A E) → IsErr r → IfOk r P
err-plan P (Ok x) is = absurd (true≢false (sym is))
err-plan P (Err e) is = tt

module _ (rule : LoadingView → Option Plan) (d : DesignView) (lib : LibraryView) (trees : List (Option TreeView)) where
  pub plans-none : {E : Type 0} (first : ℕ) (planned : List (Result (Option Plan) E)) → All IsErr planned → AreByRule rule first d lib trees planned
  plans-none first planned none k default inside = err-plan (IsByRule rule d lib trees (first + k)) (get_or planned k default) (none k default inside)

  -- one net's plan more
  pub plans-set : {E : Type 0} (first : ℕ) (planned : List (Result (Option Plan) E)) (at : ℕ) (plan : Result (Option Plan) E) → at < length planned →
      IfOk plan (IsByRule rule d lib trees (first + at)) → AreByRule rule first d lib trees planned → AreByRule rule first d lib trees (slice_set planned at plan)
  plans-set {E} first planned at plan within is are k default inside =
      let long = length-set planned at plan in
      elim (cases_eq k at) [
        | inl same ↦
            subst (λ (n : ℕ). IfOk (get_or (slice_set planned at plan) n default) (IsByRule rule d lib trees (first + n))) (sym same)
            (subst (λ (r : Result (Option Plan) E). IfOk r (IsByRule rule d lib trees (first + at))) (sym (get_or-set_same planned at plan default within)) is)
        | inr apart ↦
            subst (λ (r : Result (Option Plan) E). IfOk r (IsByRule rule d lib trees (first + k))) (sym (get_or-set_other planned at k plan default apart))
            (are k default (omega arith))
      ]

  -- the plan of a net of the design, where each was made
  plan-made : {E : Type 0} (planned : List (Result (Option Plan) E)) (plans : List (Option Plan)) (net : ℕ) → net < length planned → net < length plans →
      AreByRule rule 0 d lib trees planned → planned ≡ map (λ (plan : Option Plan). Ok plan) plans → IsByRule rule d lib trees net (plan_at plans net)
  plan-made {E} planned plans net below within are is =
      let ok : Option Plan → Result (Option Plan) E = λ plan. Ok plan in
      let place : 0 + net ≡ net = omega arith in
      let here : IfOk (get_or planned net (Ok None)) (IsByRule rule d lib trees net) =
      subst (λ (n : ℕ). IfOk (get_or planned net (Ok None)) (IsByRule rule d lib trees n)) place (are net (Ok None) (omega arith)) in
      let same : get_or planned net (Ok None) ≡ Ok (get_or plans net None) =
      ap (λ (rs : List (Result (Option Plan) E)). get_or rs net (Ok None)) is ∙ get_or-map ok plans net None (Ok None) (omega arith) in
      subst (IsByRule rule d lib trees net) (sym (get-plan plans net (omega arith)))
      (subst (λ (r : Result (Option Plan) E). IfOk r (IsByRule rule d lib trees net)) same here)

  -- all plans, where each was made
  plans-all : {E : Type 0} (planned : List (Result (Option Plan) E)) (plans : List (Option Plan)) → length planned ≡ length d.nets →
      AreByRule rule 0 d lib trees planned → planned ≡ map (λ (plan : Option Plan). Ok plan) plans → AreAllByRule rule d lib trees plans
  plans-all {E} planned plans long are is net =
      let ok : Option Plan → Result (Option Plan) E = λ plan. Ok plan in
      let same_long : length planned ≡ length plans = ap (λ (rs : List (Result (Option Plan) E)). length rs) is ∙ length-map plans ok in
      elim (cases_lt net (length d.nets)) [
        | inl below ↦ plan-made planned plans net (omega arith) (omega arith) are is
        | inr past ↦ record {
          routed = λ routed. absurd (true≢false (sym routed ∙ not-routed d net past));
          other = λ other. plan-past plans net (omega arith);
        }
      ]

  pub plans-result : {E F : Type 0} (planned : List (Result (Option Plan) E)) (result : Result (List (Option Plan)) F) → length planned ≡ length d.nets →
      AreByRule rule 0 d lib trees planned → IfOk result (λ plans. planned ≡ map (λ (plan : Option Plan). Ok plan) plans) →
      IfOk result (AreAllByRule rule d lib trees)
  plans-result planned (Ok plans) long are is = plans-all planned plans long are is
  plans-result planned (Err e) long are is = tt

-- by the rule of buffers that invert nothing each routed net has the best plan
pub picked-planned : (d : DesignView) (lib : LibraryView) (trees : List (Option TreeView)) (net : ℕ) (plan : Option Plan) →
    IsByRule picked_plan d lib trees net plan → IsPlanned d lib trees net plan
picked-planned d lib trees net plan is = record { routed = λ routed. by (tree_at trees net) (is.routed routed); other = is.other }
  where
    by : (o : Option TreeView) → IsSomeAnd o (λ t. IsRuled picked_plan (loading_of d lib net t) plan) →
        IsSomeAnd o (λ t. IsSomeAnd plan (IsPlan (loading_of d lib net t)))
    by None there = absurd there
    by (Some t) there = subst (λ (p : Option Plan). IsSomeAnd p (IsPlan (loading_of d lib net t))) (sym there.is)
        (record { placement = refl; best = picked-is_best (loading_of d lib net t) there.loading; required = refl })

pub all-picked : {F : Type 0} (d : DesignView) (lib : LibraryView) (trees : List (Option TreeView)) (result : Result (List (Option Plan)) F) →
    IfOk result (AreAllByRule picked_plan d lib trees) → IfOk result (ArePlans d lib trees)
all-picked d lib trees (Ok plans) are = λ net. picked-planned d lib trees net (plan_at plans net) (are net)
all-picked d lib trees (Err e) are = tt
