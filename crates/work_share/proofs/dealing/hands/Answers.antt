use Rattle.std.proofs.Common.{◌+◌, List, ℕ, map, subst, sym, arith}
use Rattle.std.specs.Vec.Iter.{into_iter_items}
use Rattle.crossbeam_deque.specs.Handles.{worker_deque}
use Rattle.std.specs.Global.{Vec}
use Rattle.work_share.specs.HandStore.{Owner, Pass, IsHand, seen_in}
use Rattle.work_share.specs.Views.{HandView, share_of, IsNewHand}
use Rattle.work_share.proofs.HandMaking.{IsMaking, making-first, making-parts, making-more, making-last, making-both}
use Rattle.work_share.proofs.NewHands.{new-is, new-room, new-of, new-fifo}
use Rattle.work_share.proofs.dealing.hands.Goals as goal

pub loop-own-init : goal.loop-own-init
loop-own-init c =
    subst (λ (x : List Owner × List (Vec Pass) × List HandView). IsMaking c.args.nets.now c.args.owners.items c.args.rows.items 0 x.0 x.1 x.2)
    (λ i. (sym c.into_iter-owners.ensures.rest i, sym c.into_iter-rows.ensures.rest i, sym c.in_ok-hands.ensures.items i))
    (making-first c.args.nets.now c.args.owners.items c.args.rows.items)

pub new-requires-clause-hand : goal.new-requires-clause-hand
new-requires-clause-hand c =
    let making = subst (λ (x : List Owner × List (Vec Pass)). IsMaking c.args.nets.now c.args.owners.items c.args.rows.items c.loop-own.number x.0 x.1 c.loop-own.hands.items) (λ i. (c.in-Some.ensures.items i, c.in-Some-next.ensures.items i)) c.loop-own.invariant in
    let r = c.requires in
    let parts = making-parts c.args.nets.now c.args.owners.items _ c.args.rows.items _ c.loop-own.number c.in-Some.own c.in-Some-next.passes c.loop-own.hands.items making r.few r.cut r.rows r.put in
    subst (λ (l : List ℕ). IsHand (seen_in c.loop-own.number c.in-Some.own c.in-Some-next.passes.items l)) (sym c.in_ok-taken.ensures.items)
    (new-is c.args.nets.now c.args.owners.items c.loop-own.number c.in-Some.own c.in-Some-next.passes.items parts)

pub new-requires-clause-fifo : goal.new-requires-clause-fifo
new-requires-clause-fifo c =
    let making = subst (λ (x : List Owner × List (Vec Pass)). IsMaking c.args.nets.now c.args.owners.items c.args.rows.items c.loop-own.number x.0 x.1 c.loop-own.hands.items) (λ i. (c.in-Some.ensures.items i, c.in-Some-next.ensures.items i)) c.loop-own.invariant in
    let r = c.requires in
    let parts = making-parts c.args.nets.now c.args.owners.items _ c.args.rows.items _ c.loop-own.number c.in-Some.own c.in-Some-next.passes c.loop-own.hands.items making r.few r.cut r.rows r.put in
    new-fifo c.args.nets.now c.args.owners.items c.loop-own.number c.in-Some.own c.in-Some-next.passes.items parts

pub new-requires-clause-bare : goal.new-requires-clause-bare
new-requires-clause-bare c =
    let making = subst (λ (x : List Owner × List (Vec Pass)). IsMaking c.args.nets.now c.args.owners.items c.args.rows.items c.loop-own.number x.0 x.1 c.loop-own.hands.items) (λ i. (c.in-Some.ensures.items i, c.in-Some-next.ensures.items i)) c.loop-own.invariant in
    let r = c.requires in
    (making-parts c.args.nets.now c.args.owners.items _ c.args.rows.items _ c.loop-own.number c.in-Some.own c.in-Some-next.passes c.loop-own.hands.items making r.few r.cut r.rows r.put).row.bare

pub new-requires-clause-room : goal.new-requires-clause-room
new-requires-clause-room c =
    let making = subst (λ (x : List Owner × List (Vec Pass)). IsMaking c.args.nets.now c.args.owners.items c.args.rows.items c.loop-own.number x.0 x.1 c.loop-own.hands.items) (λ i. (c.in-Some.ensures.items i, c.in-Some-next.ensures.items i)) c.loop-own.invariant in
    let r = c.requires in
    let parts = making-parts c.args.nets.now c.args.owners.items _ c.args.rows.items _ c.loop-own.number c.in-Some.own c.in-Some-next.passes c.loop-own.hands.items making r.few r.cut r.rows r.put in
    let room = new-room c.args.nets.now c.args.owners.items c.loop-own.number c.in-Some.own c.in-Some-next.passes.items parts in
    let capacity = c.in_ok-taken.ensures.exact in
    omega (arith, room, capacity)

pub loop-own-smaller : goal.loop-own-smaller
loop-own-smaller c = (let less = c.in-Some.ensures.cases.1 in omega (arith, less))

pub loop-own-preserved : goal.loop-own-preserved
loop-own-preserved c =
    let making = subst (λ (x : List Owner × List (Vec Pass)). IsMaking c.args.nets.now c.args.owners.items c.args.rows.items c.loop-own.number x.0 x.1 c.loop-own.hands.items) (λ i. (c.in-Some.ensures.items i, c.in-Some-next.ensures.items i)) c.loop-own.invariant in
    let r = c.requires in
    let parts = making-parts c.args.nets.now c.args.owners.items _ c.args.rows.items _ c.loop-own.number c.in-Some.own c.in-Some-next.passes c.loop-own.hands.items making r.few r.cut r.rows r.put in
    let new = new-of c.args.nets.now c.args.owners.items c.loop-own.number c.in-Some.own c.in-Some-next.passes.items parts in
    let taken = subst (λ (l : List ℕ). IsNewHand (share_of c.args.nets.now (map worker_deque c.args.owners.items)) c.loop-own.number (seen_in c.loop-own.number c.in-Some.own c.in-Some-next.passes.items l)) (sym c.in_ok-taken.ensures.items) new in
    let hand = subst (λ (h : HandView). IsNewHand (share_of c.args.nets.now (map worker_deque c.args.owners.items)) c.loop-own.number h) (sym c.new.ensures) taken in
    subst (λ (l : List HandView). IsMaking c.args.nets.now c.args.owners.items c.args.rows.items (c.loop-own.number + 1) (into_iter_items c.next.new.self) (into_iter_items c.next-in-Some.new.self) l) (sym c.in_ok-push.ensures.items)
    (making-more c.args.nets.now c.args.owners.items _ c.args.rows.items _ c.loop-own.number c.in-Some.own c.in-Some-next.passes c.loop-own.hands.items c.new.result making hand)

pub unreachable-requires : goal.unreachable-requires
unreachable-requires c =
    let making = subst (λ (l : List Owner). IsMaking c.args.nets.now c.args.owners.items c.args.rows.items c.loop-own.number l (into_iter_items c.loop-own.rows) c.loop-own.hands.items) c.in-Some.ensures.items c.loop-own.invariant in
    let none = c.in_default-next.ensures.cases.0 in
    let count = c.loop-own.rows.rest.ok.0 in
    making-both c.args.nets.now c.args.owners.items _ c.args.rows.items (into_iter_items c.loop-own.rows) c.loop-own.number c.in-Some.own c.loop-own.hands.items making c.requires.rows (omega (arith, none, count))

pub returns : goal.returns
returns c =
    let none = c.in_default.ensures.cases.0 in
    let count = c.loop-own.owners.rest.ok.0 in
    making-last c.args.nets.now c.args.owners.items (into_iter_items c.loop-own.owners) c.args.rows.items (into_iter_items c.loop-own.rows) c.loop-own.number c.loop-own.hands.items c.loop-own.invariant (omega (arith, none, count))
