use Rattle.std.proofs.Common.{take, refl, subst}
use Rattle.cost_rules.specs.declared.site.Formula.{Formula}
use Rattle.grid_demand.specs.Tables.{CapacityView}
use Rattle.book_state.specs.Still.{StaysBest}
use Rattle.run_histories.proofs.TurnLemmas.{routed-within}
use Rattle.ripup_workers.proofs.ForeseenPlans.{foreseen-later}
use Rattle.ripup_workers.proofs.TurningStages.{followed}
use Rattle.ripup_workers.proofs.ground.Ground.kept.Goals as goal

pub returns-then-still-clause-learnt : goal.returns-then-still-clause-learnt
returns-then-still-clause-learnt g c = λ t over.
    followed t _ _ _ _ _ over c.requires.design.capacity_is c.in_ok-still.ensures.learnt c.in_ok-still.ensures.before c.in_ok-still.ensures.pass

pub returns-then-still-clause-foreseen : goal.returns-then-still-clause-foreseen
returns-then-still-clause-foreseen g c =
    let net = c.args.wish.now.net in
    let seen = c.args.worker.now.pass.seen in
    let now = c.sync_beside.new.self.pass.seen in
    let capacity_is = c.requires.design.capacity_is in
    foreseen-later _ _ net _ seen now c.args.plan (record { tree = c.args.plan.tree; front = c.known-front.result; window = c.args.plan.window }) refl refl c.known-front.ensures.known
    (routed-within c.args.wish.now.design.now _ net refl c.args.wish.now.routed) c.requires.foreseen c.in_ok-still.ensures.learnt.begins
    (subst (λ (x : CapacityView). StaysBest x c.args.wish.now.rule.now.formula net c.args.plan.window c.args.plan.tree (take c.args.plan.front now) now) capacity_is
    (subst (λ (r : Formula). StaysBest g.N.BookName.capacity r net c.args.plan.window c.args.plan.tree (take c.args.plan.front now) now) c.formula.ensures
    (c.in_ok-still.ensures.still c.if-still.true)))

pub returns-clause-learnt : goal.returns-clause-learnt
returns-clause-learnt g c = λ t over.
    followed t _ _ _ _ _ over c.requires.design.capacity_is c.in_ok-still.ensures.learnt c.in_ok-still.ensures.before c.in_ok-still.ensures.pass
