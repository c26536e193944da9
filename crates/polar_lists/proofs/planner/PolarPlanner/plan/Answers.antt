use Rattle.std.proofs.Common.{option_map, ap, ◌∙◌}
use Rattle.elmore_delay.specs.declared.plans.Plan.{Plan}
use Rattle.polar_lists.proofs.LegalLemmas.{picked-best, none-picked}
use Rattle.polar_lists.proofs.planner.PolarPlanner.plan.Goals as goal

pub returns-in-None-clause-no_legal : goal.returns-in-None-clause-no_legal
returns-in-None-clause-no_legal g c = λ is.
    none-picked c.args.loading.now c.in_ok-legal_plan.ensures.loading
    (c.in_ok-legal_plan.ensures.picked ∙ ap (option_map (λ (p : Plan). p.placement)) c.in-None.is)

pub returns-in-Some-clause-best : goal.returns-in-Some-clause-best
returns-in-Some-clause-best g c =
    picked-best c.args.loading.now c.in_ok-legal_plan.ensures.loading c.in-Some.plan.placement
    (c.in_ok-legal_plan.ensures.picked ∙ ap (option_map (λ (p : Plan). p.placement)) c.in-Some.is)
