use Rattle.std.proofs.Common.{◌∙◌}
use Rattle.buffer_plan.proofs.PlansLemmas.{plans-result}
use Rattle.buffer_plan.proofs.nets.plan_all_by.Goals as goal

pub returns : goal.returns
returns g c =
    plans-result g.P.NetPlanner.rule c.args.nets.now.design.now c.args.nets.now.library.now c.args.nets.now.routes.now c.plan_blocks.new.planned.items c.gather.result
    (c.plan_blocks.ensures.long ∙ c.in_ok-planned.ensures.long ∙ c.nets.ensures.nets) c.plan_blocks.ensures.plans c.gather.ensures
