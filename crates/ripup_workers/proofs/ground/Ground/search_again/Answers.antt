use Rattle.std.proofs.Common.{take, subst}
use Rattle.cost_rules.specs.declared.site.Formula.{Formula}
use Rattle.grid_demand.specs.Tables.{CapacityView}
use Rattle.book_state.specs.Books.{AreLoadsOf}
use Rattle.book_state.specs.Still.{StaysBest}
use Rattle.ripup_workers.proofs.TurningStages.{followed, ok-all}
use Rattle.ripup_workers.proofs.TurningPlans.{same-plan}
use Rattle.ripup_workers.proofs.ground.Ground.search_again.Goals as goal

pub returns-then-still-clause-learnt : goal.returns-then-still-clause-learnt
returns-then-still-clause-learnt g c = λ t over.
    followed t _ _ _ _ _ over c.requires.design.capacity_is c.in_ok-still.ensures.learnt c.in_ok-still.ensures.before c.in_ok-still.ensures.pass

pub returns-then-still-clause-plan : goal.returns-then-still-clause-plan
returns-then-still-clause-plan g c =
    let now = c.sync_beside.new.self.pass.seen in
    let window = c.in-Some.window in
    let loads = c.sync_beside.new.self.replica.loads in
    let capacity_is = c.requires.design.capacity_is in
    same-plan _ _ _ _ _ c.args.front window c.args.worker.now.pass.seen now loads c.requires.planned c.in_ok-still.ensures.learnt.begins c.in-Some.ensures
    (subst (λ (x : CapacityView). AreLoadsOf x now loads) capacity_is c.in_ok-still.ensures.stands.loads)
    (subst (λ (x : CapacityView). StaysBest x c.args.wish.now.rule.now.formula c.args.wish.now.net window c.args.tree (take c.args.front now) now) capacity_is
    (subst (λ (r : Formula). StaysBest g.N.BookName.capacity r c.args.wish.now.net window c.args.tree (take c.args.front now) now) c.formula.ensures
    (c.in_ok-still.ensures.still c.if-still.true)))

pub returns-clause-learnt : goal.returns-clause-learnt
returns-clause-learnt g c = λ t over.
    ok-all c.plan.result (followed t _ _ _ _ _ over c.requires.design.capacity_is c.in_ok-still.ensures.learnt c.in_ok-still.ensures.before c.in_ok-still.ensures.pass)
