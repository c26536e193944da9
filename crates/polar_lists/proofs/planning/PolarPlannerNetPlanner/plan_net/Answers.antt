use Rattle.polar_lists.proofs.NetLemmas.{result-is, result-allowed}
use Rattle.polar_lists.proofs.planning.PolarPlannerNetPlanner.plan_net.Goals as goal

pub returns-clause-plan : goal.returns-clause-plan
returns-clause-plan g c = result-is c.args.net.now.loading.now c.legal_plan.result c.legal_plan.ensures.picked c.legal_plan.ensures.required

pub returns-clause-allowed : goal.returns-clause-allowed
returns-clause-allowed g c = result-allowed c.args.net.now.loading.now c.legal_plan.result c.legal_plan.ensures.picked c.legal_plan.ensures.loading
