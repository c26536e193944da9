use Rattle.buffer_plan.proofs.PlansLemmas.{all-picked}
use Rattle.buffer_plan.proofs.nets.plan_all.Goals as goal

pub returns : goal.returns
returns g c = all-picked c.args.design.now c.args.library.now c.args.routes.now c.plan_all_by.result c.plan_all_by.ensures
