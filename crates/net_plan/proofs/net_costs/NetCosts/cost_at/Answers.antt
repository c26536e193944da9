use Rattle.std.proofs.Common.{arith}
use Rattle.net_plan.proofs.PriceLemmas.{cost-free}
use Rattle.net_plan.proofs.net_costs.NetCosts.cost_at.Goals as goal

pub returns-then-room-site-clause-value : goal.returns-then-room-site-clause-value
returns-then-room-site-clause-value g c =
    let room = c.calm_room.ensures.value in
    cost-free c.args.self.now.rule.now.formula c.args.site c.if-site-eq0.true (let fits = c.if-room-site.true in omega (arith, fits, room))
