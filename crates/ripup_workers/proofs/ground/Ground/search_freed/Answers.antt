use Rattle.std.proofs.Common.{[], ◌∷◌, ◌++◌, Option, IfSome, take, subst}
use Rattle.cost_rules.specs.declared.site.Formula.{Formula}
use Rattle.grid_demand.specs.Tables.{CapacityView}
use Rattle.book_state.specs.Books.{AreLoadsOf}
use Rattle.book_state.specs.Still.{StaysBest}
use Rattle.run_histories.proofs.TurnLemmas.{routed-within}
use Rattle.ripup_workers.specs.Foresight.{IsForeseen}
use Rattle.ripup_workers.specs.declared.foresight.Foreseen.{Foreseen}
use Rattle.ripup_workers.proofs.ForeseenPlans.{foreseen-plan}
use Rattle.ripup_workers.proofs.TurningStages.{followed, ok-all}
use Rattle.ripup_workers.proofs.ground.Ground.search_freed.Goals as goal

pub sync_freed-requires : goal.sync_freed-requires
sync_freed-requires g c = routed-within c.args.wish.now.design.now _ c.args.wish.now.net c.requires.design.capacity_is c.args.wish.now.routed

pub returns-then-still-clause-learnt : goal.returns-then-still-clause-learnt
returns-then-still-clause-learnt g c = λ t over.
    followed t _ _ _ _ _ over c.requires.design.capacity_is c.in_ok-still.ensures.learnt c.in_ok-still.ensures.before c.in_ok-still.ensures.pass

pub returns-then-still-clause-plan : goal.returns-then-still-clause-plan
returns-then-still-clause-plan g c =
    let d = c.args.wish.now.design.now in
    let formula = c.args.wish.now.rule.now.formula in
    let net = c.args.wish.now.net in
    let kind = c.args.wish.now.kind in
    let f = c.in-Some.foreseen in
    let seen = c.args.worker.now.pass.seen in
    let now = c.sync_freed.new.self.pass.seen in
    let loads = c.sync_freed.new.self.replica.loads in
    let capacity_is = c.requires.design.capacity_is in
    foreseen-plan d formula net kind seen now f loads
    (subst (λ (o : Option Foreseen). IfSome o (IsForeseen d formula net kind seen)) c.in-Some.is c.requires.foreseen)
    c.in_ok-still.ensures.learnt.begins
    (subst (λ (x : CapacityView). AreLoadsOf x now loads) capacity_is c.in_ok-still.ensures.stands.loads)
    (λ e freeing. subst (λ (x : CapacityView). StaysBest x c.args.wish.now.rule.now.formula net f.window f.tree (take f.front now ++ e ∷ []) now) capacity_is
    (subst (λ (r : Formula). StaysBest g.N.BookName.capacity r net f.window f.tree (take f.front now ++ e ∷ []) now) c.formula.ensures
    (c.in_ok-still.ensures.still c.if-still.true e freeing)))

pub returns-clause-learnt : goal.returns-clause-learnt
returns-clause-learnt g c = λ t over.
    ok-all c.plan.result (followed t _ _ _ _ _ over c.requires.design.capacity_is c.in_ok-still.ensures.learnt c.in_ok-still.ensures.before c.in_ok-still.ensures.pass)
