use Rattle.net_plan.proofs.PriceLemmas.{vias-of_net}
use Rattle.net_plan.proofs.net_costs.NetCostsCosts.least_via.Goals as goal

pub returns-clause-vias : goal.returns-clause-vias
returns-clause-vias g c =
    vias-of_net c.args.self.now.capacity.now c.args.self.now.loads.now c.args.self.now.rule.now.formula c.args.self.now.net
