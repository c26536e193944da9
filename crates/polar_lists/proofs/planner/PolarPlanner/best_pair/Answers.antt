use Rattle.std.proofs.Common.{false, List, length, ap, sym, subst, ◌∙◌, arith}
use Rattle.ginneken_lists.specs.Candidates.{Chosen}
use Rattle.buffer_plan.specs.Picked.{sites_of}
use Rattle.buffer_plan.proofs.Sizes.{sizes-of, pairs-of_all}
use Rattle.polar_lists.specs.BothLists.{all_in, side, AreBothGathered}
use Rattle.polar_lists.specs.declared.sides.Sides.{Sides}
use Rattle.polar_lists.proofs.BothGathering.{both-few}
use Rattle.polar_lists.proofs.BothSteps.{both-plan_steps, both-plan_steps_part}
use Rattle.polar_lists.proofs.LegalPlans.{taken, legal-pair, some-marked}
use Rattle.polar_lists.proofs.planner.PolarPlanner.best_pair.Goals as goal

pub hang_all-requires-clause-ours : goal.hang_all-requires-clause-ours
hang_all-requires-clause-ours g c = record { of = c.requires.ours; is = c.driver-driver.ensures.loading }

pub hang_all-requires-clause-lists : goal.hang_all-requires-clause-lists
hang_all-requires-clause-lists g c =
    subst (λ (trail : List Chosen). AreBothGathered (sites_of c.args.loading.now) (length c.args.tree.now.nodes) trail c.start.new.lists.items) (sym c.clear.ensures) c.in_ok-start.ensures.lists

pub returns-in_err-hang_all-clause-steps : goal.returns-in_err-hang_all-clause-steps
returns-in_err-hang_all-clause-steps g c =
    both-plan_steps_part (length c.args.library.now.kinds) (length c.args.tree.now.nodes) c.args.steps.now c.hang_all.new.steps
    (sizes-of c.requires.ours c.driver-driver.ensures.loading).rooted c.in_err-hang_all.ensures.steps

pub returns-in_err-plain-clause-steps : goal.returns-in_err-plain-clause-steps
returns-in_err-plain-clause-steps g c =
    both-plan_steps_part (length c.args.library.now.kinds) (length c.args.tree.now.nodes) c.args.steps.now c.hang_all.new.steps
    (sizes-of c.requires.ours c.driver-driver.ensures.loading).rooted c.in_ok-hang_all.ensures.steps

pub best_driven-requires : goal.best_driven-requires
best_driven-requires g c = (taken 0 c.driver-driver.ensures.loading c.in_ok-hang_all.ensures.lists (omega arith) (c.in_ok-plain.ensures ∙ c.take-whole.ensures.list)).range false

pub returns-clause-picked : goal.returns-clause-picked
returns-clause-picked g c =
    legal-pair c.args.loading.now c.hang_all.new.trail c.hang_all.new.lists.items c.in_ok-plain.field-0 c.driver-driver.result c.best_driven.result
    c.in_ok-hang_all.ensures.lists (c.in_ok-plain.ensures ∙ c.take-whole.ensures.list) c.driver-driver.ensures.driver
    (c.best_driven.ensures.best c.hang_all.new.trail)

pub returns-clause-mark : goal.returns-clause-mark
returns-clause-mark g c =
    some-marked c.hang_all.new.trail (all_in c.in_ok-plain.field-0.plain) c.best_driven.result
    ((taken 0 c.driver-driver.ensures.loading c.in_ok-hang_all.ensures.lists (omega arith) (c.in_ok-plain.ensures ∙ c.take-whole.ensures.list)).marks false) c.best_driven.ensures.one

pub returns-clause-steps : goal.returns-clause-steps
returns-clause-steps g c =
    let sizes = sizes-of c.requires.ours c.driver-driver.ensures.loading in
    let few = both-few (sites_of c.args.loading.now) 1 0 c.hang_all.new.trail c.hang_all.new.lists.items c.in_ok-hang_all.ensures.lists (omega arith) false in
    let is = ap (λ (sides : Sides). length (side sides false)) (c.in_ok-plain.ensures ∙ c.take-whole.ensures.list) in
    both-plan_steps (length c.args.library.now.kinds) (length c.args.tree.now.nodes) c.args.steps.now c.hang_all.new.steps c.best_driven.new.steps
    (length (all_in c.in_ok-plain.field-0.plain)) sizes.rooted c.in_ok-hang_all.ensures.steps (omega (arith, few, is, pairs-of_all sizes)) c.best_driven.ensures.steps
