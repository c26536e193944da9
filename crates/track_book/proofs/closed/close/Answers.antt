use Rattle.std.proofs.Common.{◌≡◌, [], List, ℕ, arith, sym, subst}
use Rattle.std.proofs.lemmas.List.{nil_from_length}
use Rattle.std.specs.Vec.Iter.{into_iter_items}
use Rattle.atomic_table.specs.Seated.{TableId}
use Rattle.book_front.specs.Seats.{AreAll as AreAllSeats}
use Rattle.track_book.specs.Passes.{PassView}
use Rattle.track_book.proofs.Dealing.{IsEnding, ending-more, all-seats, all-closed}
use Rattle.track_book.proofs.closed.close.Goals as goal

pub push_reserved-requires : goal.push_reserved-requires
push_reserved-requires g c =
    let room = c.loop-pass.invariant.1 in
    let left = c.in-Some.ensures.cases.1 in
    omega (arith, room, left)

pub loop-pass-preserved : goal.loop-pass-preserved
loop-pass-preserved g c =
    let word = g.N.BookName.word in
    let ending = subst (λ (rest : List PassView). IsEnding word c.args.passes.items rest c.loop-pass.seats.items) c.in-Some.ensures.items c.loop-pass.invariant.0 in
    let s = c.into_seat.ensures in
    let room = c.loop-pass.invariant.1 in
    let left = c.in-Some.ensures.cases.1 in
    let longer = c.push_reserved.ensures.len in
    let same = c.push_reserved.ensures.capacity in
    (ending-more _ _ _ _ c.push_reserved.new.self.items c.in-Some.pass c.into_seat.result c.push_reserved.ensures.items ending record { pass = s.pass; begins = s.begins; mine = s.mine }, omega (arith, room, left, longer, same))

pub finish-requires-clause-seats : goal.finish-requires-clause-seats
finish-requires-clause-seats g c =
    let word = g.N.BookName.word in
    let count = c.loop-pass.rest.rest.ok.0 in
    let none = c.in_default.ensures.cases.0 in
    let empty : into_iter_items c.loop-pass.rest ≡ [] = nil_from_length (into_iter_items c.loop-pass.rest) (omega (arith, count, none)) in
    let ending = subst (λ (rest : List PassView). IsEnding word c.args.passes.items rest c.loop-pass.seats.items) empty c.loop-pass.invariant.0 in
    let made = c.into_parts-state.ensures.made in
    subst (λ (x : TableId × ℕ). AreAllSeats x.0 x.1 c.loop-pass.seats.items) (λ i. (sym c.requires.front i, sym made i)) (all-seats _ _ _ _ c.requires.passes ending)

pub returns-clause-book : goal.returns-clause-book
returns-clause-book g c =
    let word = g.N.BookName.word in
    let count = c.loop-pass.rest.rest.ok.0 in
    let none = c.in_default.ensures.cases.0 in
    let empty : into_iter_items c.loop-pass.rest ≡ [] = nil_from_length (into_iter_items c.loop-pass.rest) (omega (arith, count, none)) in
    let ending = subst (λ (rest : List PassView). IsEnding word c.args.passes.items rest c.loop-pass.seats.items) empty c.loop-pass.invariant.0 in
    let parts = c.into_parts-state.ensures in
    let f = c.finish.ensures in
    all-closed _ _ _ _ _ _ _ _ parts.seen parts.history c.requires.passes ending parts.legal f.passes f.numbers
