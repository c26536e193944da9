use Rattle.std.proofs.Common.{List, subst, sym, arith}
use Rattle.std.specs.Vec.Iter.{into_iter_items}
use Rattle.work_share.specs.HandStore.{Pass}
use Rattle.work_share.proofs.GatherLemmas.{IsGathering, gathering-first, gathering-within, gathering-pass, gathering-part, gathering-more, gathering-last}
use Rattle.work_share.proofs.RuleSteps.{gathers}
use Rattle.work_share.proofs.ending.gather_row.Goals as goal

pub loop-pass-init : goal.loop-pass-init
loop-pass-init c =
    subst (λ (l : List Pass). IsGathering c.args.owners.now.items c.args.row.items 0 l c.args.owners.now.items) (sym c.into_iter-rest.ensures.rest)
    (gathering-first c.args.owners.now.items c.args.row.items)

pub index_mut-requires : goal.index_mut-requires
index_mut-requires c =
    let is = subst (λ (l : List Pass). IsGathering c.args.owners.now.items c.args.row.items c.loop-pass.place l c.loop-pass.owners.items) c.in-Some.ensures.items c.loop-pass.invariant in
    let within = gathering-within _ _ _ _ _ _ c.requires.row is in
    let long = c.loop-pass.owners.ok.0 in
    omega (arith, within, long)

pub absorb-requires-clause-table : goal.absorb-requires-clause-table
absorb-requires-clause-table c =
    let is = subst (λ (l : List Pass). IsGathering c.args.owners.now.items c.args.row.items c.loop-pass.place l c.loop-pass.owners.items) c.in-Some.ensures.items c.loop-pass.invariant in
    gathering-pass _ _ _ _ _ _ _ c.requires.row is c.index_mut.ensures.value

pub absorb-requires-clause-rule : goal.absorb-requires-clause-rule
absorb-requires-clause-rule c =
    let is = subst (λ (l : List Pass). IsGathering c.args.owners.now.items c.args.row.items c.loop-pass.place l c.loop-pass.owners.items) c.in-Some.ensures.items c.loop-pass.invariant in
    gathers _ _ _ _ (gathering-part _ _ _ _ _ _ c.index_mut.result.now c.requires.row is c.index_mut.ensures.value c.requires.parts)

pub overflow_add-place : goal.overflow_add-place
overflow_add-place c =
    let is = subst (λ (l : List Pass). IsGathering c.args.owners.now.items c.args.row.items c.loop-pass.place l c.loop-pass.owners.items) c.in-Some.ensures.items c.loop-pass.invariant in
    let within = gathering-within _ _ _ _ _ _ c.requires.row is in
    let long = c.loop-pass.owners.ok.0 in
    let small = c.loop-pass.owners.small in
    omega (arith, within, long, small)

pub loop-pass-smaller : goal.loop-pass-smaller
loop-pass-smaller c = (let less = c.in-Some.ensures.cases.1 in omega (arith, less))

pub loop-pass-preserved : goal.loop-pass-preserved
loop-pass-preserved c =
    let is = subst (λ (l : List Pass). IsGathering c.args.owners.now.items c.args.row.items c.loop-pass.place l c.loop-pass.owners.items) c.in-Some.ensures.items c.loop-pass.invariant in
    let a = c.absorb.ensures in
    gathering-more c.args.owners.now.items c.args.row.items c.loop-pass.place c.in-Some.pass (into_iter_items c.next.new.self) c.loop-pass.owners.items c.index_mut.result.now c.absorb.new.self c.requires.row is c.index_mut.ensures.value (a.same.0, a.rule)

pub returns : goal.returns
returns c =
    let none = c.in_default.ensures.cases.0 in
    let count = c.loop-pass.rest.rest.ok.0 in
    gathering-last c.args.owners.now.items c.args.row.items c.loop-pass.place (into_iter_items c.loop-pass.rest) c.loop-pass.owners.items c.loop-pass.invariant (omega (arith, none, count))
