use Rattle.std.proofs.Common.{List, arith, subst}
use Rattle.book_front.specs.declared.seat.PassSeat.{PassSeat}
use Rattle.track_book.proofs.Dealing.{IsDealing, next-seat, dealing-more}
use Rattle.track_book.proofs.pass.passes_of.Goals as goal

pub new-requires : goal.new-requires
new-requires g c =
    let dealing = subst (λ (rest : List PassSeat). IsDealing c.args.seats.items rest c.loop-seat.passes.items) c.in-Some.ensures.items c.loop-seat.invariant.0 in
    let count = c.loop-seat.passes.ok.0 in
    let len = c.len-in-Some.ensures in
    next-seat _ _ _ _ _ _ c.requires.each dealing (omega (arith, count, len))

pub push_reserved-requires : goal.push_reserved-requires
push_reserved-requires g c =
    let room = c.loop-seat.invariant.1 in
    let left = c.in-Some.ensures.cases.1 in
    omega (arith, room, left)

pub loop-seat-preserved : goal.loop-seat-preserved
loop-seat-preserved g c =
    let dealing = subst (λ (rest : List PassSeat). IsDealing c.args.seats.items rest c.loop-seat.passes.items) c.in-Some.ensures.items c.loop-seat.invariant.0 in
    let count = c.loop-seat.passes.ok.0 in
    let len = c.len-in-Some.ensures in
    let room = c.loop-seat.invariant.1 in
    let left = c.in-Some.ensures.cases.1 in
    let longer = c.push_reserved.ensures.len in
    let same = c.push_reserved.ensures.capacity in
    (dealing-more _ _ _ c.push_reserved.new.self.items c.in-Some.seat c.new.result _ c.push_reserved.ensures.items dealing (omega (arith, count, len)) c.new.ensures, omega (arith, room, left, longer, same))
