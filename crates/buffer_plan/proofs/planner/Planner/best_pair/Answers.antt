use Rattle.std.proofs.Common.{◌≤◌, List, length, ap, sym, subst, ◌∙◌, arith}
use Rattle.std.proofs.lemmas.List.Elements.{All-contains}
use Rattle.ginneken_lists.specs.Candidates.{Chosen, best_driven}
use Rattle.ginneken_lists.specs.Pairs.{candidates}
use Rattle.ginneken_lists.specs.declared.pair.Pair.{Pair}
use Rattle.buffer_plan.specs.Picked.{sites_of}
use Rattle.buffer_plan.specs.Gathered.{AreGathered}
use Rattle.buffer_plan.proofs.Gathering.{gathered-few}
use Rattle.buffer_plan.proofs.PlanLemmas.{pair-picked, plan-steps, plan-steps_part}
use Rattle.buffer_plan.proofs.Sizes.{sizes-of, pairs-of_all}
use Rattle.buffer_plan.proofs.TakenLemmas.{taken}
use Rattle.buffer_plan.proofs.planner.Planner.best_pair.Goals as goal

pub hang_all-requires-clause-lists : goal.hang_all-requires-clause-lists
hang_all-requires-clause-lists g c =
    subst (λ (trail : List Chosen). AreGathered (sites_of c.args.loading.now) (length c.args.tree.now.nodes) trail c.start.new.lists.items) (sym c.clear.ensures) c.in_ok-start.ensures.lists

pub returns-in_err-hang_all-clause-steps : goal.returns-in_err-hang_all-clause-steps
returns-in_err-hang_all-clause-steps g c =
    plan-steps_part (length c.args.library.now.kinds) (length c.args.tree.now.nodes) c.args.steps.now c.hang_all.new.steps
    (sizes-of c.requires.ours c.driver-driver.ensures.loading).rooted c.in_err-hang_all.ensures.steps

pub returns-in_err-pairs-clause-steps : goal.returns-in_err-pairs-clause-steps
returns-in_err-pairs-clause-steps g c =
    plan-steps_part (length c.args.library.now.kinds) (length c.args.tree.now.nodes) c.args.steps.now c.hang_all.new.steps
    (sizes-of c.requires.ours c.driver-driver.ensures.loading).rooted c.in_ok-hang_all.ensures.steps

pub best_driven-best-requires : goal.best_driven-best-requires
best_driven-best-requires g c =
    (taken 0 c.driver-driver.ensures.loading c.in_ok-hang_all.ensures.lists (omega arith) (c.in_ok-pairs.ensures ∙ c.take.ensures.list)).range

pub returns-clause-picked : goal.returns-clause-picked
returns-clause-picked g c =
    let is = c.in_ok-pairs.ensures ∙ c.take.ensures.list in
    pair-picked c.args.loading.now c.hang_all.new.trail c.hang_all.new.lists.items c.driver-driver.result c.best_driven-best.result c.in_ok-hang_all.ensures.lists
    c.driver-driver.ensures.driver
    (ap (λ (pairs : List Pair). best_driven c.driver-driver.result (candidates c.hang_all.new.trail pairs)) (sym is) ∙ c.best_driven-best.ensures.best c.hang_all.new.trail)

pub returns-clause-mark : goal.returns-clause-mark
returns-clause-mark g c =
    All-contains (λ (pair : Pair). pair.mark ≤ length c.hang_all.new.trail) c.in_ok-pairs.pairs c.best_driven-best.result
    (taken 0 c.driver-driver.ensures.loading c.in_ok-hang_all.ensures.lists (omega arith) (c.in_ok-pairs.ensures ∙ c.take.ensures.list)).marks c.best_driven-best.ensures.one

pub returns-clause-steps : goal.returns-clause-steps
returns-clause-steps g c =
    let sizes = sizes-of c.requires.ours c.driver-driver.ensures.loading in
    let few = gathered-few (sites_of c.args.loading.now) 1 0 c.hang_all.new.trail c.hang_all.new.lists.items c.in_ok-hang_all.ensures.lists (omega arith) in
    let is = ap (λ (pairs : List Pair). length pairs) (c.in_ok-pairs.ensures ∙ c.take.ensures.list) in
    plan-steps (length c.args.library.now.kinds) (length c.args.tree.now.nodes) c.args.steps.now c.hang_all.new.steps c.best_driven-best.new.steps
    (length c.in_ok-pairs.pairs) sizes.rooted c.in_ok-hang_all.ensures.steps (omega (arith, few, is, pairs-of_all sizes)) c.best_driven-best.ensures.steps
