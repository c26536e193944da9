use Rattle.std.proofs.Common.{refl}
use Rattle.router_top.proofs.CommandLaws.{for-order, untouched}
use Rattle.router_top.proofs.top.carry_out.Goals as goal

pub returns-in-Route-clause-leaves : goal.returns-in-Route-clause-leaves
returns-in-Route-clause-leaves g c = for-order _ c.args.order _ _ _ _ _ c.in-Route.is c.route.ensures

pub returns-in-Evaluate-clause-leaves : goal.returns-in-Evaluate-clause-leaves
returns-in-Evaluate-clause-leaves g c =
    for-order _ c.args.order _ _ _ _ _ c.in-Evaluate.is (c.judge.ensures _ (untouched _ g.E.Sink.faults g.E.Sink.written _))

pub returns-in-Buffer-clause-leaves : goal.returns-in-Buffer-clause-leaves
returns-in-Buffer-clause-leaves g c =
    for-order _ c.args.order _ _ _ _ _ c.in-Buffer.is (c.buffer.ensures _ (untouched _ g.E.Sink.faults g.E.Sink.written _))

pub returns-in-Make-clause-leaves : goal.returns-in-Make-clause-leaves
returns-in-Make-clause-leaves g c = for-order _ c.args.order _ _ _ _ _ c.in-Make.is (c.make_design.ensures _ refl)

pub returns-in-Trial-clause-leaves : goal.returns-in-Trial-clause-leaves
returns-in-Trial-clause-leaves g c =
    for-order _ c.args.order _ _ _ _ _ c.in-Trial.is (c.trial.ensures _ refl _ (untouched _ g.E.Sink.faults g.E.Sink.written _))

pub returns-in-Panels-clause-leaves : goal.returns-in-Panels-clause-leaves
returns-in-Panels-clause-leaves g c =
    for-order _ c.args.order _ _ _ _ _ c.in-Panels.is (c.panels.ensures _ (untouched _ g.E.Sink.faults g.E.Sink.written _))
