use Rattle.std.proofs.Common.{◌≡◌, None, map, fold}
use Rattle.std.specs.List.{range_with_len}
use Rattle.net_plan.specs.Prices.{price_of}
use Rattle.net_plan.specs.FlatPrices.{lesser}
use Rattle.net_plan.proofs.flat_costs.FlatCostsCosts.cost.Given as goal
use Rattle.gr_base.specs.Grid.{on_layer}

abbrev pub invariant-loop-layer : goal.invariant-loop-layer
invariant-loop-layer g l =
    let costs = l.self.costs.now in
    l.least ≡ fold lesser None (map (λ layer. price_of costs.capacity.now costs.loads.now costs.rule.now.formula costs.net (on_layer costs.capacity.now.shape layer l.e)) (range_with_len 0 l.layer))
