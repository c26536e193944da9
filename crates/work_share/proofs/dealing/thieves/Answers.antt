use Rattle.std.proofs.Common.{◌≡◌, ◌<◌, All, List, length, map, subst, sym, ap, ◌∙◌, arith}
use Rattle.std.proofs.lemmas.List.{length-map, take_all}
use Rattle.std.proofs.lemmas.List.Elements.{All-push}
use Rattle.crossbeam_deque.specs.Handles.{stealer_deque, stealer_flavor, worker_deque}
use Rattle.work_share.proofs.Places.{get-read}
use Rattle.work_share.proofs.RowLemmas.{thieves-more}
use Rattle.work_share.proofs.dealing.thieves.Goals as goal

pub loop-place-preserved : goal.loop-place-preserved
loop-place-preserved c =
    let owners = c.args.owners.now.items in
    let o = c.index.result.now in
    let len = c.len-place-end.ensures in
    let long = c.args.owners.now.ok.0 in
    let less = c.loop-place-test.true in
    let within : c.loop-place.place < length owners = omega (arith, len, long, less) in
    let thief = c.in_ok-stealer.ensures in
    let fifo = thief.1 ∙ (c.requires c.loop-place.place o (get-read owners c.loop-place.place o within c.index.ensures)).fifo in
    let more = thieves-more stealer_deque owners c.loop-place.thieves.items c.loop-place.place o c.in_ok-stealer.field-0 c.loop-place.invariant.0 within c.index.ensures thief.0 in
    let items = c.in_ok-push.ensures.items in (
      ap (λ (l : List _). map stealer_deque l) items ∙ more,
      subst (All (λ t. stealer_flavor t ≡ 0)) (sym items) (All-push (λ t. stealer_flavor t ≡ 0) c.loop-place.thieves.items c.in_ok-stealer.field-0 c.loop-place.invariant.1 fifo),
    )

pub returns-clause-deques : goal.returns-clause-deques
returns-clause-deques c =
    let owners = c.args.owners.now.items in
    let len = c.len-place-end.ensures in
    let long = c.args.owners.now.ok.0 in
    let past = c.loop-place-test.false in
    let names = length-map owners worker_deque in
    c.loop-place.invariant.0 ∙ take_all c.loop-place.place (map worker_deque owners) (omega (arith, len, long, past, names))
