use Rattle.std.proofs.Common.{ℕ, ◌*◌, ◌^◌, ℤ, pos, ◌-ℤ◌, length, map, Option, IfSome, refl, sym, ap, subst, ◌∙◌, arith}
use Rattle.std.specs.List.{range_with_len}
use Rattle.gr_base.specs.Trees.{TreeView}
use Rattle.elmore_delay.specs.Loadings.{rc_of}
use Rattle.elmore_delay.specs.Ranges.{IsTime}
use Rattle.ginneken_lists.specs.Candidates.{chosen_at}
use Rattle.ginneken_lists.specs.Pairs.{seen_of, candidate_of}
use Rattle.ginneken_lists.specs.Trails.{chosen_of}
use Rattle.buffer_plan.specs.Gathered.{IsWithin}
use Rattle.buffer_plan.proofs.PlanLemmas.{plan-empty, plan-no_time, driven-fits, driven-told, plan-chosen, plan-driven}
use Rattle.buffer_plan.proofs.placing.plan_of.Goals as goal

pub returns-in_default-clause-placement : goal.returns-in_default-clause-placement
returns-in_default-clause-placement c =
    plan-empty c.args.loading.now (candidate_of c.args.trail.now c.args.pair) c.len.result c.in_ok-none.field-0 c.in_default.is
    (c.len.ensures.len ∙ sym (ap (λ (t : TreeView). length t.nodes) c.requires.tree)) c.in_ok-none.ensures

pub returns-in_default-clause-required : goal.returns-in_default-clause-required
returns-in_default-clause-required c = plan-no_time (rc_of c.args.loading.now).driver (seen_of c.args.pair) c.in_default.is

pub place-requires-clause-within : goal.place-requires-clause-within
place-requires-clause-within c =
    subst (λ (n : ℕ). IsWithin n (chosen_of c.args.trail.now c.args.pair.mark)) (sym c.len-2.ensures.len) c.requires.within

pub overflow_sub-result : goal.overflow_sub-result
overflow_sub-result c =
    let l = c.args.loading.now in
    let time = subst (λ (t : Option ℤ). IfSome t (IsTime (2 ^ 100))) c.in-Some.is c.requires.small.time in
    driven-fits (rc_of l).driver c.args.pair.load c.from.result c.from-2.result c.in-Some.time (c.from.ensures ∙ c.driver-driver.ensures.driver) c.from-2.ensures
    (omega (arith, c.driver-driver.ensures.fits, c.driver-driver.ensures.driver)) c.requires.small.load time

pub returns-clause-placement : goal.returns-clause-placement
returns-clause-placement c =
    let l = c.args.loading.now in
    let chosen = chosen_of c.args.trail.now c.args.pair.mark in
    plan-chosen l (candidate_of c.args.trail.now c.args.pair) c.in-Some.time c.in_ok-place.field-0 c.in-Some.is
    (c.in_ok-place.ensures
    ∙ ap (λ (n : ℕ). map (chosen_at chosen) (range_with_len 0 n)) (c.len-2.ensures.len ∙ sym (ap (λ (t : TreeView). length t.nodes) c.requires.tree)))

pub returns-clause-required : goal.returns-clause-required
returns-clause-required c =
    let l = c.args.loading.now in
    let time = subst (λ (t : Option ℤ). IfSome t (IsTime (2 ^ 100))) c.in-Some.is c.requires.small.time in
    driven-told (rc_of l).driver c.args.pair.load c.from.result c.from-2.result c.in-Some.time (c.from.ensures ∙ c.driver-driver.ensures.driver) c.from-2.ensures
    (omega (arith, c.driver-driver.ensures.fits, c.driver-driver.ensures.driver)) c.requires.small.load time
    ∙ plan-driven (rc_of l).driver (seen_of c.args.pair) c.in-Some.time
    (c.in-Some.time -ℤ pos (2 * (rc_of l).driver * c.args.pair.load)) c.in-Some.is refl
