use Rattle.std.proofs.Common.{List, ℕ, subst, sym, arith}
use Rattle.std.proofs.lemmas.List.{nil_from_length}
use Rattle.std.specs.Global.{Vec}
use Rattle.std.specs.Vec.Iter.{into_iter_items}
use Rattle.work_share.specs.HandStore.{Owner, Pass}
use Rattle.work_share.specs.Views.{HandView}
use Rattle.work_share.proofs.EndLemmas.{IsParting, parting-first, parting-more, parting-last}
use Rattle.work_share.proofs.ending.part.Goals as goal

pub loop-hand-init : goal.loop-hand-init
loop-hand-init c =
    subst (λ (x : List HandView × List Owner × List (Vec Pass) × List (Vec ℕ)). IsParting c.args.hands.items x.0 x.1 x.2 x.3)
    (λ i. (sym c.into_iter-rest.ensures.rest i, sym c.in_ok-owners.ensures.items i, sym c.in_ok-rows.ensures.items i, sym c.in_ok-taken.ensures.items i))
    (parting-first c.args.hands.items)

pub loop-hand-smaller : goal.loop-hand-smaller
loop-hand-smaller c = (let less = c.in-Some.ensures.cases.1 in omega (arith, less))

pub loop-hand-preserved : goal.loop-hand-preserved
loop-hand-preserved c =
    let is = subst (λ (l : List HandView). IsParting c.args.hands.items l c.loop-hand.owners.items c.loop-hand.rows.items c.loop-hand.taken.items) c.in-Some.ensures.items c.loop-hand.invariant in
    let p = c.into_parts-parts.ensures in
    subst (λ (x : List Owner × List (Vec Pass) × List (Vec ℕ)). IsParting c.args.hands.items (into_iter_items c.next.new.self) x.0 x.1 x.2)
    (λ i. (sym c.in_ok-push.ensures.items i, sym c.in_ok-push-2.ensures.items i, sym c.in_ok-push-3.ensures.items i))
    (parting-more c.args.hands.items (into_iter_items c.next.new.self) c.loop-hand.owners.items c.loop-hand.rows.items c.loop-hand.taken.items c.in-Some.hand c.into_parts-parts.result is p.hand p.is p.fifo p.bare)

pub returns : goal.returns
returns c =
    let none = c.in_default.ensures.cases.0 in
    let count = c.loop-hand.rest.rest.ok.0 in
    parting-last c.args.hands.items (into_iter_items c.loop-hand.rest) record { owners = c.loop-hand.owners; rows = c.loop-hand.rows; taken = c.loop-hand.taken } c.loop-hand.invariant
    (nil_from_length (into_iter_items c.loop-hand.rest) (omega (arith, none, count)))
