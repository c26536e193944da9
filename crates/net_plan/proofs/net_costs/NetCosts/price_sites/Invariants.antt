use Rattle.maze_route.specs.Runs.{IsRun}
use Rattle.net_plan.specs.Prices.{price_of}
use Rattle.net_plan.proofs.net_costs.NetCosts.price_sites.Given as goal

abbrev pub invariant-loop-place : goal.invariant-loop-place
invariant-loop-place g l =
    IsRun (price_of l.self.capacity.now l.self.loads.now l.self.rule.now.formula l.self.net) l.fn.from l.fn.first l.place l.fn.prices l.prices
