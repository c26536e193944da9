use Rattle.std.proofs.Common.{◌<◌, length, ◌∙◌, arith}
use Rattle.std.proofs.lemmas.List.{length-set}
use Rattle.buffer_plan.proofs.PlansLemmas.{plans-set}
use Rattle.buffer_plan.proofs.nets.plan_block.Goals as goal

pub loop-at-preserved : goal.loop-at-preserved
loop-at-preserved g c =
    let kept = c.loop-at.invariant in
    let block = c.loop-at.block in
    let at = c.loop-at.at in
    let plan = c.net_plan.result in
    let within : at < length block = omega (arith, c.loop-at-test.true, kept.long) in
    record {
      index = omega (arith, kept.index, c.net_plan.ensures.index);
      long = length-set block at plan ∙ kept.long;
      plans = plans-set g.P.NetPlanner.rule c.args.nets.now.design.now c.args.nets.now.library.now c.args.nets.now.routes.now c.args.first block at plan within c.net_plan.ensures.plan kept.plans;
    }
