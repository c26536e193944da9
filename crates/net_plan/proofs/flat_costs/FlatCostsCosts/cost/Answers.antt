use Rattle.std.proofs.Common.{◌≡◌, ℕ, Option, Some, IsSome, sym, ap, subst, ◌∙◌, arith}
use Rattle.net_plan.specs.FlatPrices.{flat_price_of}
use Rattle.net_plan.specs.Prices.{price_of}
use Rattle.net_plan.proofs.FlatPriceLemmas.{flat-one, least-more, least-passed, none-over}
use Rattle.net_plan.proofs.flat_costs.FlatCostsCosts.cost.Given.{Over}
use Rattle.net_plan.proofs.flat_costs.FlatCostsCosts.cost.Goals as goal
use Rattle.gr_base.specs.Grid.{on_layer}

-- a layer that costs 1 costs as much as the flat edge
one : (g : Over) (c : goal.Then-is_least g) →
    c.cost-cost.result ≡ flat_price_of c.args.self.now.costs.now.capacity.now c.args.self.now.costs.now.loads.now c.args.self.now.costs.now.rule.now.formula
    c.args.self.now.costs.now.net c.args.e
one g c =
    let costs = c.args.self.now.costs.now in
    let price = price_of costs.capacity.now costs.loads.now costs.rule.now.formula costs.net in
    let is = c.is_least.ensures c.if-is_least.true in
    let over : price (on_layer costs.capacity.now.shape c.loop-layer.layer c.args.e) ≡ Some 1 =
    sym (c.cost-cost.ensures.price ∙ ap price c.over.ensures.over) ∙ is in
    let test = c.loop-layer-test.true in
    let count = c.layers-layer-end.ensures in
    is ∙
    flat-one costs.capacity.now costs.loads.now costs.rule.now.formula costs.net c.args.self.now.shape c.args.e c.loop-layer.layer c.args.self.now.flattened c.requires
    (omega (arith, test, count)) over

pub returns-then-is_least-clause-price : goal.returns-then-is_least-clause-price
returns-then-is_least-clause-price g c = one g c

pub returns-then-is_least-clause-some : goal.returns-then-is_least-clause-some
returns-then-is_least-clause-some g c =
    let some = c.args.self.now.prices.some c.args.e c.requires in
    (λ has. some.0 (subst (λ (o : Option ℕ). IsSome o) (one g c) has), λ goes. subst (λ (o : Option ℕ). IsSome o) (sym (one g c)) (some.1 goes))

pub loop-layer-preserved-then-not-goes : goal.loop-layer-preserved-then-not-goes
loop-layer-preserved-then-not-goes g c =
    let costs = c.args.self.now.costs.now in
    let test = c.loop-layer-test.true in
    let count = c.layers-layer-end.ensures in
    least-passed (λ layer. price_of costs.capacity.now costs.loads.now costs.rule.now.formula costs.net (on_layer costs.capacity.now.shape layer c.args.e))
    c.loop-layer.layer c.loop-layer.least c.loop-layer.invariant
    (none-over costs.capacity.now costs.loads.now costs.rule.now.formula costs.net c.args.self.now.shape c.args.e c.loop-layer.layer c.args.self.now.flattened c.requires
    (omega (arith, test, count)) (sym c.goes.ensures.ways ∙ c.if-not-goes.true))

pub loop-layer-preserved : goal.loop-layer-preserved
loop-layer-preserved g c =
    let costs = c.args.self.now.costs.now in
    least-more (λ layer. price_of costs.capacity.now costs.loads.now costs.rule.now.formula costs.net (on_layer costs.capacity.now.shape layer c.args.e))
    c.loop-layer.layer c.loop-layer.least c.lesser-least.result c.cost-cost.result c.loop-layer.invariant
    (c.cost-cost.ensures.price ∙ ap (price_of costs.capacity.now costs.loads.now costs.rule.now.formula costs.net) c.over.ensures.over)
    c.lesser-least.ensures
