use Rattle.std.proofs.Common.{ℕ, length, ap, subst}
use Rattle.gr_base.specs.Trees.{TreeView}
use Rattle.ginneken_lists.specs.Pairs.{candidate_of}
use Rattle.buffer_plan.specs.Gathered.{IsWithin}
use Rattle.buffer_plan.proofs.BestLemmas.{picked-real}
use Rattle.buffer_plan.proofs.PlanLemmas.{real-in_range, real-within, plan-is_picked, plan-best, plan-time}
use Rattle.buffer_plan.proofs.planner.Planner.plan.Goals as goal

pub plan_of-requires-clause-small : goal.plan_of-requires-clause-small
plan_of-requires-clause-small g c =
    let l = c.args.loading.now in
    let o = candidate_of c.best_pair.new.self.trail c.in_ok-pair.pair in
    let loading = c.in_ok-pair.ensures.loading in
    real-in_range l o loading (picked-real l o loading c.in_ok-pair.ensures.picked)

pub plan_of-requires-clause-within : goal.plan_of-requires-clause-within
plan_of-requires-clause-within g c =
    let l = c.args.loading.now in
    let o = candidate_of c.best_pair.new.self.trail c.in_ok-pair.pair in
    let loading = c.in_ok-pair.ensures.loading in
    subst (λ (n : ℕ). IsWithin n o.chosen) (ap (λ (t : TreeView). length t.nodes) c.requires.tree)
    (real-within l o loading (picked-real l o loading c.in_ok-pair.ensures.picked))

pub returns-clause-picked : goal.returns-clause-picked
returns-clause-picked g c =
    let l = c.args.loading.now in
    let o = candidate_of c.best_pair.new.self.trail c.in_ok-pair.pair in
    plan-is_picked l o c.plan_of.result c.in_ok-pair.ensures.loading c.in_ok-pair.ensures.picked c.plan_of.ensures.placement

pub returns-clause-best : goal.returns-clause-best
returns-clause-best g c = plan-best c.args.loading.now c.plan_of.result c.in_ok-pair.ensures.loading (returns-clause-picked g c)

pub returns-clause-required : goal.returns-clause-required
returns-clause-required g c =
    let l = c.args.loading.now in
    let o = candidate_of c.best_pair.new.self.trail c.in_ok-pair.pair in
    let loading = c.in_ok-pair.ensures.loading in
    plan-time l o c.plan_of.result loading (picked-real l o loading c.in_ok-pair.ensures.picked) c.plan_of.ensures.placement c.plan_of.ensures.required
