use Rattle.std.proofs.Common.{arith}
use Rattle.net_plan.specs.Prices.{ways_of}
use Rattle.net_plan.proofs.PriceLemmas.{first-edge}
use Rattle.net_plan.proofs.net_costs.NetCostsRunCosts.price_run.Goals as goal

pub need-need-requires : goal.need-need-requires
need-need-requires g c =
    first-edge c.args.self.now.capacity.now.shape (ways_of c.args.self.now.capacity.now) c.args.from c.args.count c.requires.edges (omega (arith, c.if-count-eq0.false))
