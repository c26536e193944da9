use Rattle.std.proofs.Common.{List, ℕ, subst, sym, arith}
use Rattle.std.proofs.lemmas.List.{nil_from_length}
use Rattle.std.specs.Vec.Iter.{into_iter_items}
use Rattle.work_share.specs.HandStore.{Owner}
use Rattle.work_share.proofs.EmptyLemmas.{AreEmptying, empties-first, empties-head, empties-more, empties-last}
use Rattle.work_share.proofs.ending.rest_of.Goals as goal

pub loop-owner-init : goal.loop-owner-init
loop-owner-init c =
    subst (λ (x : List Owner × List ℕ). AreEmptying c.args.owners.items x.0 x.1) (λ i. (sym c.into_iter-rest.ensures.rest i, sym c.new-nets.ensures.items i))
    (empties-first c.args.owners.items c.requires.fifo c.requires.whole)

pub empty-requires-clause-fifo : goal.empty-requires-clause-fifo
empty-requires-clause-fifo c =
    let are = subst (λ (l : List Owner). AreEmptying c.args.owners.items l c.loop-owner.nets.items) c.in-Some.ensures.items c.loop-owner.invariant in
    (empties-head _ _ c.in-Some.owner _ are).0

pub empty-requires-clause-whole : goal.empty-requires-clause-whole
empty-requires-clause-whole c =
    let are = subst (λ (l : List Owner). AreEmptying c.args.owners.items l c.loop-owner.nets.items) c.in-Some.ensures.items c.loop-owner.invariant in
    (empties-head _ _ c.in-Some.owner _ are).1

pub loop-owner-smaller : goal.loop-owner-smaller
loop-owner-smaller c = (let less = c.in-Some.ensures.cases.1 in omega (arith, less))

pub loop-owner-preserved : goal.loop-owner-preserved
loop-owner-preserved c =
    let are = subst (λ (l : List Owner). AreEmptying c.args.owners.items l c.loop-owner.nets.items) c.in-Some.ensures.items c.loop-owner.invariant in
    empties-more c.args.owners.items (into_iter_items c.next.new.self) c.in-Some.owner c.loop-owner.nets.items c.empty.new.nets.items are c.in_ok-empty.ensures

pub returns : goal.returns
returns c =
    let none = c.in_default.ensures.cases.0 in
    let count = c.loop-owner.rest.rest.ok.0 in
    empties-last c.args.owners.items (into_iter_items c.loop-owner.rest) c.loop-owner.nets.items c.loop-owner.invariant (nil_from_length (into_iter_items c.loop-owner.rest) (omega (arith, none, count)))
