use Rattle.std.proofs.Common.{List, ◌+◌, set, length, subst, sym, ap, arith}
use Rattle.std.proofs.lemmas.List.{length-map}
use Rattle.std.proofs.lemmas.List.Elements.{All-nil}
use Rattle.crossbeam_deque.specs.Handles.{stealer_deque, worker_deque}
use Rattle.work_share.specs.HandStore.{Pass, IsBare}
use Rattle.work_share.specs.Views.{DequeName}
use Rattle.work_share.proofs.RowLemmas.{IsCutting, cutting-first, cutting-last, cutting-many, cutting-more, cutting-thief, length-stocks}
use Rattle.work_share.proofs.dealing.row.Goals as goal

pub loop-place-init : goal.loop-place-init
loop-place-init c =
    subst (λ (l : List Pass). IsCutting c.args.number 0 c.args.owners.now.items c.args.owners.now.items l) (sym c.in_ok-passes.ensures.items)
    (cutting-first c.args.number c.args.owners.now.items c.requires.cut (All-nil IsBare))

pub index_mut-requires : goal.index_mut-requires
index_mut-requires c =
    let len = c.len-place-end.ensures in
    let before = c.args.owners.now.ok.0 in
    let now = c.loop-place.owners.ok.0 in
    let same = length-stocks c.args.owners.now.items c.loop-place.owners.items c.loop-place.invariant.same in
    let less = c.loop-place-test.true in
    omega (arith, len, before, now, same, less)

pub index-requires : goal.index-requires
index-requires c =
    let len = c.len-place-end.ensures in
    let before = c.args.owners.now.ok.0 in
    let thieves = c.args.thieves.now.ok.0 in
    let names = length-map c.args.thieves.now.items stealer_deque in
    let deques = length-map c.args.owners.now.items worker_deque in
    let both = ap (λ (l : List DequeName). length l) c.requires.thieves in
    let less = c.loop-place-test.true in
    omega (arith, len, before, thieves, names, deques, both, less)

pub pass-requires-clause-thief : goal.pass-requires-clause-thief
pass-requires-clause-thief c =
    let within = c.loop-place.owners.ok.0 in
    let len = c.len-place-end.ensures in
    let before = c.args.owners.now.ok.0 in
    let same = length-stocks c.args.owners.now.items c.loop-place.owners.items c.loop-place.invariant.same in
    let less = c.loop-place-test.true in
    cutting-thief stealer_deque c.args.owners.now.items c.loop-place.owners.items c.args.thieves.now.items c.loop-place.place c.index_mut.result.now c.index.result.now c.loop-place.invariant.same c.requires.thieves
    (omega (arith, within, len, before, same, less)) c.index_mut.ensures.value c.index.ensures

pub pass-requires-clause-parts : goal.pass-requires-clause-parts
pass-requires-clause-parts c =
    let len = c.len-place-end.ensures in
    let before = c.args.owners.now.ok.0 in
    let same = length-stocks c.args.owners.now.items c.loop-place.owners.items c.loop-place.invariant.same in
    let less = c.loop-place-test.true in
    cutting-many c.args.number c.loop-place.place c.args.owners.now.items c.loop-place.owners.items c.loop-place.passes.items c.index_mut.result.now c.loop-place.invariant c.requires.number (omega (arith, len, before, same, less)) c.index_mut.ensures.value

pub loop-place-preserved : goal.loop-place-preserved
loop-place-preserved c =
    let len = c.len-place-end.ensures in
    let before = c.args.owners.now.ok.0 in
    let same = length-stocks c.args.owners.now.items c.loop-place.owners.items c.loop-place.invariant.same in
    let less = c.loop-place-test.true in
    let p = c.pass.ensures in
    subst (λ (l : List Pass). IsCutting c.args.number (c.loop-place.place + 1) c.args.owners.now.items (set c.loop-place.owners.items c.loop-place.place c.pass.new.owner) l) (sym c.in_ok-push.ensures.items)
    (cutting-more c.args.number c.loop-place.place c.args.owners.now.items c.loop-place.owners.items c.loop-place.passes.items c.index_mut.result.now c.pass.new.owner c.pass.result c.loop-place.invariant c.requires.number
    (omega (arith, len, before, same, less)) c.index_mut.ensures.value p.same p.owner p.known p.bare)

pub returns : goal.returns
returns c =
    let same = length-stocks c.args.owners.now.items c.loop-place.owners.items c.loop-place.invariant.same in
    let last = cutting-last c.args.number c.loop-place.place c.args.owners.now.items c.loop-place.owners.items c.loop-place.passes.items c.loop-place.invariant
    (omega (arith, c.len-place-end.ensures, c.args.owners.now.ok.0, same, c.loop-place-test.false, c.loop-place.auto.place-end)) in
    record { same = c.loop-place.invariant.same; cut = last.0; row = last.1 }
