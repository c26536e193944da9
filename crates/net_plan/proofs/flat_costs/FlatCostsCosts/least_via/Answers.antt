use Rattle.net_plan.specs.FlatPrices.{flat_ways_of, flat_price_of}
use Rattle.net_plan.specs.Prices.{kept_prices}
use Rattle.net_plan.proofs.flat_costs.FlatCostsCosts.least_via.Goals as goal

pub returns-clause-vias : goal.returns-clause-vias
returns-clause-vias g c =
    let costs = c.args.self.now.costs.now in
    let prices = kept_prices c.args.self.now.shape (flat_ways_of costs.capacity.now) (flat_price_of costs.capacity.now costs.loads.now costs.rule.now.formula costs.net)
    c.args.self.now.prices in
    λ e edge up. prices.least e edge
