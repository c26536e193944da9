use Rattle.std.proofs.Common.{◌∙◌, arith}
use Rattle.grid_demand.proofs.OverfullSteps.{excess-more, excess-sum}
use Rattle.grid_demand.proofs.loads.total_over.Goals as goal

pub loop-at-preserved : goal.loop-at-preserved
loop-at-preserved c =
    let sum = c.loop-at.invariant.sum in
    let few = c.loop-at.invariant.few in
    let more = excess-more c.args.demands.now c.args.capacities.now c.loop-at.at in
    let is = c.from-total.ensures ∙ c.saturating_sub.ensures in
    record {
      sum = omega (arith, sum, more, is, c.at.ensures.value, c.from.ensures);
      few = omega (arith, few, c.from-total.ensures, c.saturating_sub.type_inv);
    }

pub returns : goal.returns
returns c =
    excess-sum c.args.demands.now c.args.capacities.now c.loop-at.total c.loop-at.at c.loop-at.invariant.sum
    (omega (arith, c.loop-at-test.false, c.loop-at.auto.at-end, c.len-at-end.ensures)) c.requires.capacities
