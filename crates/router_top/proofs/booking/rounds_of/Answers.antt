use Rattle.router_top.proofs.RouteLemmas.{rounds-made}
use Rattle.router_top.proofs.booking.rounds_of.Goals as goal

pub returns-in-None : goal.returns-in-None
returns-in-None g c =
    rounds-made c.args.request.now.design.now c.args.request.now.given.now c.args.request.now.options c.rounds_by_workers.result c.in-None.is c.rounds_by_workers.ensures
