use Rattle.std.proofs.Common.{◌≡◌, List, [], ◌∷◌, ◌++◌, refl, sym, ap, subst, ◌∙◌, arith}
use Rattle.std.proofs.lemmas.List.{take_all}
use Rattle.grid_demand.specs.LoadSums.{LoadsView}
use Rattle.grid_demand.specs.Tables.{CapacityView, capacity_of}
use Rattle.net_plan.specs.Prices.{HasBoundedDemand}
use Rattle.book_state.specs.Books.{AreLoadsOf}
use Rattle.book_state.specs.declared.entry.Entry.{Entry}
use Rattle.run_histories.proofs.TurnLemmas.{bounded-loads}
use Rattle.ripup_workers.proofs.ForeseenPlans.{lifted-loads}
use Rattle.ripup_workers.proofs.worker.Worker.plan_without.Goals as goal

pub plan-plan-requires-clause-loads : goal.plan-plan-requires-clause-loads
plan-plan-requires-clause-loads g c =
    ap (λ (l : LoadsView). l.shape) c.loads.ensures ∙ (lifted-loads _ _ _ _ (c.if-not-lift.ensures.lifted refl)).shape
    ∙ ap (λ (v : CapacityView). v.shape) (c.requires.capacity ∙ c.requires.design.capacity_is)

pub plan-plan-requires-clause-demand : goal.plan-plan-requires-clause-demand
plan-plan-requires-clause-demand g c =
    subst HasBoundedDemand (sym c.loads.ensures)
    (bounded-loads _ _ _ _ c.requires.design.design (c.requires.capacity ∙ c.requires.design.capacity_is) (lifted-loads _ _ _ _ (c.if-not-lift.ensures.lifted refl)))

pub returns-clause-plan : goal.returns-clause-plan
returns-clause-plan g c = λ e freeing.
    let seen = c.args.self.now.pass.seen in
    let held = c.requires.held in
    let past_is : c.past-past.result.now ≡ seen = c.past-past.ensures.past ∙ take_all c.args.self.now.pass.held seen (omega (arith, held)) in
    let of = (c.if-not-lift.ensures.lifted refl).loads e freeing in
    let there = subst (λ (v : CapacityView). AreLoadsOf v (c.past-past.result.now ++ e ∷ []) c.lift.new.self.loads) (c.requires.capacity ∙ c.requires.design.capacity_is) of in
    c.in_ok-plan.ensures (seen ++ e ∷ [])
    (subst (λ (h : List Entry). AreLoadsOf (capacity_of c.args.wish.now.design.now) (h ++ e ∷ []) c.loads.result.now) past_is
    (subst (λ (l : LoadsView). AreLoadsOf (capacity_of c.args.wish.now.design.now) (c.past-past.result.now ++ e ∷ []) l) (sym c.loads.ensures) there))
