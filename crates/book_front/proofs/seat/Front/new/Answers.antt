use Rattle.std.proofs.Common.{◌+◌, sym, subst, List}
use Rattle.book_front.specs.Seats.{word_of, AreFresh}
use Rattle.book_front.specs.declared.seat.PassSeat.{PassSeat}
use Rattle.book_front.proofs.Dealing.{fresh-more}
use Rattle.book_front.proofs.seat.Front.new.Goals as goal

pub loop-preserved : goal.loop-preserved
loop-preserved c =
    let s = c.split.ensures in
    let more = fresh-more _ _ _ _ _ _ c.loop.invariant s.keeper_word s.keeper s.pass_word s.pass in
    subst (λ (all : List PassSeat). AreFresh (word_of c.in_ok-front.front) (c.loop.counter + 1) c.split.new.keeper all) (sym c.push_reserved.ensures.items) more
