use Rattle.std.proofs.Common.{refl}
use Rattle.std.proofs.lemmas.Option.{slice_get-get_or}
use Rattle.batch_rounds.proofs.SeatSteps.{planned-more, planned-all}
use Rattle.batch_rounds.proofs.seat.Seat.plan_each.Goals as goal

pub loop-at-preserved : goal.loop-at-preserved
loop-at-preserved g c =
    let b = c.args.basis.now in
    planned-more b.design.now b.rule.now.formula b.round b.loads.now c.args.nets.now c.args.first c.args.count c.loop-at.at _ _ c.loop-at.self.plans.items c.push.new.self.items c.in_ok-plan.plan refl
    c.in_ok-push.ensures.items (slice_get-get_or c.args.nets.now c.loop-at.at 0 c.loop-at-test.true) c.in_ok-plan.ensures c.loop-at.invariant

pub returns : goal.returns
returns g c =
    let b = c.args.basis.now in
    planned-all b.design.now b.rule.now.formula b.round b.loads.now c.args.nets.now c.args.first c.args.count c.loop-at.at c.loop-at.self c.loop-at-test.false c.loop-at.invariant
