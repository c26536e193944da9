use Rattle.std.proofs.Common.{arith}
use Rattle.layer_assign.specs.Runs.{best_up_to}
use Rattle.layer_assign.specs.Tables.{number_in, priced}
use Rattle.layer_assign.proofs.RunLemmas.{up_to-small, costs-less}
use Rattle.layer_assign.proofs.ThinLemmas.{thinning-none, thinning-more}
use Rattle.layer_assign.proofs.limbs.run_costs.Goals as goal

pub loop-layer-init : goal.loop-layer-init
loop-layer-init g c = thinning-none (priced c.args.shape (g.C.Costs.price c.args.costs.now) c.args.limb.now) _ c.told-thin

pub a_climb_more-seen-requires : goal.a_climb_more-seen-requires
a_climb_more-seen-requires g c =
    let layer = c.loop-layer.layer in
    let thin = number_in c.loop-layer.thin in
    let test = c.loop-layer-test.true in
    costs-less c.loop-layer.best (best_up_to thin layer) layer (omega (arith, test, c.layers-layer-end.ensures.most)) c.loop-layer.invariant.is_best
    (up_to-small thin layer 1125899907891200 layer (omega arith) c.loop-layer.invariant.most)

pub loop-layer-preserved : goal.loop-layer-preserved
loop-layer-preserved g c =
    let test = c.loop-layer-test.true in
    thinning-more (priced c.args.shape (g.C.Costs.price c.args.costs.now) c.args.limb.now) c.loop-layer.thin c.loop-layer.layer c.cost_unless.result c.loop-layer.best
    c.a_climb_more-seen.result c.offer_on.result c.better_of-best.result (omega (arith, test, c.layers-layer-end.ensures.most)) c.loop-layer.invariant
    c.a_climb_more-seen.ensures c.cost_unless.ensures.cost c.cost_unless.ensures.most c.offer_on.ensures c.better_of-best.ensures

pub returns : goal.returns
returns g c =
    let end = c.loop-layer-test.false in
    let all = c.layers-layer-end.ensures.layers in
    record {
      thins = λ layer lt. c.loop-layer.invariant.thins layer (omega (arith, end, all, lt));
      most = λ layer lt. c.loop-layer.invariant.most layer (omega (arith, end, all, lt));
    }
