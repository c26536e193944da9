use Rattle.std.proofs.Common.{◌≡◌, ℕ, ◌%◌, List, length, ap, ◌∙◌, refl, arith}
use Rattle.std.proofs.lemmas.List.{take_all}
use Rattle.std.proofs.lemmas.Nat.{mod_below}
use Rattle.work_share.specs.Dealt.{deals}
use Rattle.work_share.proofs.DealLemmas.{dealing-first, dealing-more, dealing-whole}
use Rattle.work_share.proofs.dealing.deal.Goals as goal

pub loop-place-init : goal.loop-place-init
loop-place-init c = dealing-first c.args.nets.now c.args.owners.now.items c.requires.fresh

pub nonzero_rem-hand : goal.nonzero_rem-hand
nonzero_rem-hand c =
    let len = c.len.ensures in
    let long = c.loop-place.owners.ok.0 in
    let same = c.loop-place.invariant.long in
    let some = c.requires.some in
    omega (arith, len, long, same, some)

pub index_mut-requires : goal.index_mut-requires
index_mut-requires c =
    let len = c.len.ensures in
    let long = c.loop-place.owners.ok.0 in
    let same = c.loop-place.invariant.long in
    let some = c.requires.some in
    let below = mod_below c.loop-place.place c.len.result (omega (arith, len, long, same, some)) in
    omega (arith, below, len)

pub put-requires : goal.put-requires
put-requires c =
    let len = c.len.ensures in
    let long = c.loop-place.owners.ok.0 in
    let same = c.loop-place.invariant.long in
    let some = c.requires.some in
    let below = mod_below c.loop-place.place c.len.result (omega (arith, len, long, same, some)) in
    dealing-whole c.args.nets.now c.loop-place.owners.items (c.loop-place.place % c.len.result) c.index_mut.result.now c.loop-place.invariant.cut (omega (arith, below, len, long)) c.index_mut.ensures.value

pub loop-place-preserved : goal.loop-place-preserved
loop-place-preserved c =
    let workers : c.len.result ≡ length c.args.owners.now.items = c.len.ensures ∙ c.loop-place.owners.ok.0 ∙ c.loop-place.invariant.long in
    let put = c.in_ok-put.ensures in
    dealing-more (length c.args.owners.now.items) c.args.nets.now c.loop-place.place (c.loop-place.place % c.len.result) c.loop-place.owners.items c.index_mut.result.now c.put.new.owner _ c.loop-place.invariant
    c.requires.some c.loop-place-test.true refl (ap (λ (n : ℕ). c.loop-place.place % n) workers) c.index_mut.ensures.value put.same put.put

pub returns-clause-count : goal.returns-clause-count
returns-clause-count c = c.loop-place.invariant.long

pub returns-clause-cut : goal.returns-clause-cut
returns-clause-cut c = c.loop-place.invariant.cut

pub returns-clause-put : goal.returns-clause-put
returns-clause-put c =
    let end = c.loop-place.auto.place-end in
    let past = c.loop-place-test.false in
    c.loop-place.invariant.put ∙ ap (λ (l : List ℕ). deals (length c.args.owners.now.items) l) (take_all c.loop-place.place c.args.nets.now (omega (arith, past)))
