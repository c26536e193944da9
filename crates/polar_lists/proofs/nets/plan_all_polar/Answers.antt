use Rattle.polar_lists.proofs.NetLemmas.{all-legal}
use Rattle.polar_lists.proofs.nets.plan_all_polar.Goals as goal

pub returns : goal.returns
returns g c = all-legal c.args.design.now c.args.library.now c.args.routes.now c.plan_all_by.result c.plan_all_by.ensures
