use Rattle.std.proofs.Common.{length, option_map, ap, ◌∙◌}
use Rattle.gr_base.specs.Trees.{TreeView}
use Rattle.ginneken_lists.specs.Pairs.{candidate_of}
use Rattle.polar_lists.proofs.LegalPlans.{legal-small, legal-within, legal-placed, legal-required}
use Rattle.polar_lists.proofs.planner.PolarPlanner.legal_plan.Goals as goal

pub plan_of-requires-clause-small : goal.plan_of-requires-clause-small
plan_of-requires-clause-small g c =
    legal-small c.args.loading.now (candidate_of c.best_pair.new.self.trail c.in-Some.pair) c.in_ok-pair.ensures.loading
    (c.in_ok-pair.ensures.picked ∙ ap (option_map (candidate_of c.best_pair.new.self.trail)) c.in-Some.is)

pub plan_of-requires-clause-within : goal.plan_of-requires-clause-within
plan_of-requires-clause-within g c =
    legal-within c.args.loading.now (candidate_of c.best_pair.new.self.trail c.in-Some.pair) c.in_ok-pair.ensures.loading
    (c.in_ok-pair.ensures.picked ∙ ap (option_map (candidate_of c.best_pair.new.self.trail)) c.in-Some.is)
    (length c.args.tree.now.nodes) (ap (λ (t : TreeView). length t.nodes) c.requires.ours.tree_is)

pub returns-clause-picked : goal.returns-clause-picked
returns-clause-picked g c =
    legal-placed c.args.loading.now (candidate_of c.best_pair.new.self.trail c.in-Some.pair) c.in_ok-pair.ensures.loading
    (c.in_ok-pair.ensures.picked ∙ ap (option_map (candidate_of c.best_pair.new.self.trail)) c.in-Some.is)
    c.in_ok-plan.plan.placement c.in_ok-plan.ensures.placement

pub returns-clause-required : goal.returns-clause-required
returns-clause-required g c =
    legal-required c.args.loading.now (candidate_of c.best_pair.new.self.trail c.in-Some.pair) c.in_ok-pair.ensures.loading
    (c.in_ok-pair.ensures.picked ∙ ap (option_map (candidate_of c.best_pair.new.self.trail)) c.in-Some.is)
    c.in_ok-plan.plan.placement c.in_ok-plan.plan.required c.in_ok-plan.ensures.placement c.in_ok-plan.ensures.required
