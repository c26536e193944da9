use Rattle.rc_library.proofs.NetLemmas.{found-below}
use Rattle.rc_library.proofs.steps.net.Goals as goal

pub returns-clause-below : goal.returns-clause-below
returns-clause-below g c = found-below c.args.design.now c.in_ok-id.id c.net_of_id.result c.given.result c.net_of_id.ensures c.given.ensures.value
