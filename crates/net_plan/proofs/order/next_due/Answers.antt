use Rattle.std.proofs.Common.{◌<◌, length, sym, ◌∙◌, arith}
use Rattle.maze_route.specs.Search.{is_marked}
use Rattle.net_plan.specs.Orders.{is_due}
use Rattle.net_plan.proofs.RangeLemmas.{found-later, found-from}
use Rattle.net_plan.proofs.order.next_due.Goals as goal

pub loop-point-init : goal.loop-point-init
loop-point-init c = found-from (is_due c.args.topology.now (is_marked c.args.handled.now)) (length c.args.topology.now) c.args.from c.requires.none_below

pub loop-point-preserved : goal.loop-point-preserved
loop-point-preserved c =
    let points = c.args.topology.now in
    let below : c.loop-point.point < length points = let e = c.len-point-end.ensures.len in let t = c.loop-point-test.true in omega arith in
    found-later (is_due points (is_marked c.args.handled.now)) (length points) c.loop-point.point below
    (sym c.is_due.ensures ∙ c.if-is_due.false) ∙ c.loop-point.invariant
