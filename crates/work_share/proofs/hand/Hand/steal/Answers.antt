use Rattle.std.proofs.Common.{◌≢◌, ◌<◌, List, ℕ, [], ◌∷◌, ◌++◌, set, length, sym, subst, arith}
use Rattle.std.proofs.lemmas.List.{length-map}
use Rattle.work_share.specs.HandStore.{IsHand, known_by, seen_in}
use Rattle.work_share.specs.HandSteps.{TakesFrom, FindsNone}
use Rattle.work_share.specs.Views.{HandView}
use Rattle.work_share.proofs.Places.{get-read, get-map}
use Rattle.work_share.proofs.PassLemmas.{bare-step, takes-from, finds-none, keeps-taken, keeps-left}
use Rattle.work_share.proofs.hand.Hand.steal.Goals as goal

pub steal-requires-clause-part : goal.steal-requires-clause-part
steal-requires-clause-part c =
    let passes = c.self.inside.passes.items in
    let inside = subst (λ (h : HandView). c.args.place < length h.others) (sym c.self.view_is) c.requires.place in
    let apart = subst (λ (h : HandView). c.args.place ≢ h.number) (sym c.self.view_is) c.requires.other in
    let long = length-map passes known_by in
    let there = get-read passes c.args.place c.index_mut.result.now (omega (arith, inside, long)) c.index_mut.ensures.value in
    let one = c.self.invariant.hand.parts c.args.place (known_by c.index_mut.result.now) apart (get-map known_by passes c.args.place c.index_mut.result.now there) in
    omega (arith, one)

pub invariant_of-self : goal.invariant_of-self
invariant_of-self c =
    let passes = c.self.inside.passes.items in
    let p = c.index_mut.result.now in
    let keeps = c.self.invariant in
    let inside = subst (λ (h : HandView). c.args.place < length h.others) (sym c.self.view_is) c.requires.place in
    let long = length-map passes known_by in
    let there = get-read passes c.args.place p (omega (arith, inside, long)) c.index_mut.ensures.value in
    let s = c.in_err-net.ensures in
    let new = keeps-left c.self.inside.number c.self.inside.own passes c.self.inside.taken.items c.args.place p c.steal.new.pass keeps.hand there s.same s.kept in
    let same = new.1 in
    let room = keeps.room in
    record { hand = new.0; fifo = keeps.fifo; bare = bare-step passes c.args.place p c.steal.new.pass s.same keeps.bare; room = omega (arith, same, room) }

pub returns-in_err-net-clause-none : goal.returns-in_err-net-clause-none
returns-in_err-net-clause-none c =
    let passes = c.self.inside.passes.items in
    let p = c.index_mut.result.now in
    let inside = subst (λ (h : HandView). c.args.place < length h.others) (sym c.self.view_is) c.requires.place in
    let long = length-map passes known_by in
    let there = get-read passes c.args.place p (omega (arith, inside, long)) c.index_mut.ensures.value in
    let s = c.in_err-net.ensures in
    let q = c.steal.new.pass in
    rw c.from_residual.ensures
    (subst (λ (h : HandView). FindsNone c.args.place c.args.tries h (seen_in c.self.inside.number c.self.inside.own (set passes c.args.place q) c.self.inside.taken.items)) c.self.view_is
    (finds-none c.self.inside.number c.self.inside.own passes c.self.inside.taken.items c.args.place c.args.tries p q there s.same s.kept s.none))

pub push_reserved-requires : goal.push_reserved-requires
push_reserved-requires c =
    let passes = c.self.inside.passes.items in
    let p = c.index_mut.result.now in
    let keeps = c.self.invariant in
    let inside = subst (λ (h : HandView). c.args.place < length h.others) (sym c.self.view_is) c.requires.place in
    let apart = subst (λ (h : HandView). c.args.place ≢ h.number) (sym c.self.view_is) c.requires.other in
    let long = length-map passes known_by in
    let there = get-read passes c.args.place p (omega (arith, inside, long)) c.index_mut.ensures.value in
    let s = c.in_ok-net.ensures in
    let new = keeps-taken c.self.inside.number c.self.inside.own passes c.self.inside.taken.items c.args.place c.in_ok-net.net p c.steal.new.pass keeps.hand apart there s.same s.taken in
    let fits = new.2 in
    let room = keeps.room in
    let count = c.self.inside.taken.ok.0 in
    omega (arith, fits, room, count)

pub invariant_of-self-2 : goal.invariant_of-self-2
invariant_of-self-2 c =
    let passes = c.self.inside.passes.items in
    let p = c.index_mut.result.now in
    let q = c.steal.new.pass in
    let number = c.self.inside.number in
    let own = c.self.inside.own in
    let keeps = c.self.invariant in
    let inside = subst (λ (h : HandView). c.args.place < length h.others) (sym c.self.view_is) c.requires.place in
    let apart = subst (λ (h : HandView). c.args.place ≢ h.number) (sym c.self.view_is) c.requires.other in
    let long = length-map passes known_by in
    let there = get-read passes c.args.place p (omega (arith, inside, long)) c.index_mut.ensures.value in
    let s = c.in_ok-net.ensures in
    let new = keeps-taken number own passes c.self.inside.taken.items c.args.place c.in_ok-net.net p q keeps.hand apart there s.same s.taken in
    let items = sym c.push_reserved.ensures.items in
    let hand = subst (λ (l : List ℕ). IsHand (seen_in number own (set passes c.args.place q) l)) items new.0 in
    let same = new.1 in
    let room = keeps.room in
    let capacity = c.push_reserved.ensures.capacity in
    record { hand = hand; fifo = keeps.fifo; bare = bare-step passes c.args.place p q s.same keeps.bare; room = omega (arith, same, room, capacity) }

pub returns-clause-taken : goal.returns-clause-taken
returns-clause-taken c =
    let passes = c.self.inside.passes.items in
    let p = c.index_mut.result.now in
    let q = c.steal.new.pass in
    let number = c.self.inside.number in
    let own = c.self.inside.own in
    let net = c.in_ok-net.net in
    let inside = subst (λ (h : HandView). c.args.place < length h.others) (sym c.self.view_is) c.requires.place in
    let long = length-map passes known_by in
    let there = get-read passes c.args.place p (omega (arith, inside, long)) c.index_mut.ensures.value in
    let s = c.in_ok-net.ensures in
    let takes = takes-from number own passes c.self.inside.taken.items c.args.place net p q there s.same s.taken in
    let old = subst (λ (h : HandView). TakesFrom c.args.place h net (seen_in number own (set passes c.args.place q) (c.self.inside.taken.items ++ net ∷ []))) c.self.view_is takes in
    subst (λ (l : List ℕ). TakesFrom c.args.place c.args.self.now net (seen_in number own (set passes c.args.place q) l)) (sym c.push_reserved.ensures.items) old
