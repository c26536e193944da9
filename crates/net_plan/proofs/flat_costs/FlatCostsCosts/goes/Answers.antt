use Rattle.std.proofs.Common.{sym, ◌∙◌, arith}
use Rattle.net_plan.specs.Prices.{ways_of}
use Rattle.net_plan.proofs.FlatPriceLemmas.{some-up}
use Rattle.net_plan.proofs.RangeLemmas.{any-range, none-more}
use Rattle.net_plan.proofs.flat_costs.FlatCostsCosts.goes.Goals as goal

pub returns-then-goes-clause-ways : goal.returns-then-goes-clause-ways
returns-then-goes-clause-ways g c =
    let capacity = c.args.self.now.costs.now.capacity.now in
    let test = c.loop-layer-test.true in
    let count = c.layers-layer-end.ensures in
    sym (any-range (λ n. ways_of capacity n c.args.way) capacity.shape.layers 0 c.loop-layer.layer (omega arith) (omega arith)
    (sym c.goes.ensures.ways ∙ c.if-goes.true))

pub loop-layer-preserved : goal.loop-layer-preserved
loop-layer-preserved g c =
    none-more (λ n. ways_of c.args.self.now.costs.now.capacity.now n c.args.way) c.loop-layer.layer c.loop-layer.invariant
    (sym c.goes.ensures.ways ∙ c.if-goes.false)

pub returns-clause-up : goal.returns-clause-up
returns-clause-up g c =
    λ up.
    let capacity = c.args.self.now.costs.now.capacity.now in
    let past = c.loop-layer-test.false in
    let count = c.layers-layer-end.ensures in
    sym (some-up capacity c.args.way c.loop-layer.layer up (omega arith) c.loop-layer.invariant)
