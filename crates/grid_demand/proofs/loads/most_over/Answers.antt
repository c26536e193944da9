use Rattle.std.proofs.Common.{◌≡◌, max, arith}
use Rattle.std.proofs.lemmas.Grind.{common_steps}
use Rattle.grid_demand.proofs.OverfullSteps.{most-more, excess-most}
use Rattle.grid_demand.proofs.loads.most_over.Goals as goal

pub loop-at-preserved : goal.loop-at-preserved
loop-at-preserved c =
    let is = c.loop-at.invariant in
    let more = most-more c.args.demands.now c.args.capacities.now c.loop-at.at in
    let next : c.max-most.result ≡ max c.loop-at.most c.saturating_sub.result = grind (arith, common_steps) in
    omega (arith, is, more, next, c.saturating_sub.ensures, c.at.ensures.value, c.from.ensures)

pub returns : goal.returns
returns c =
    excess-most c.args.demands.now c.args.capacities.now c.loop-at.most c.loop-at.at c.loop-at.invariant
    (omega (arith, c.loop-at-test.false, c.loop-at.auto.at-end, c.len-at-end.ensures)) c.requires
