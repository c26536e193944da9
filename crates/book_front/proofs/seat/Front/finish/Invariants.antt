use Rattle.std.specs.Vec.Iter.{into_iter_len, into_iter_items}
use Rattle.book_front.specs.Seats.{word_of}
use Rattle.book_front.proofs.Dealing.{IsEnding}
use Rattle.book_front.proofs.seat.Front.finish.Given as goal

-- the passes that don't remain have ended
abbrev pub invariant-loop-seat : goal.invariant-loop-seat
invariant-loop-seat l = IsEnding (word_of l.self) l.fn.keeper l.keeper l.fn.seats.items (into_iter_items l.rest)

abbrev pub decreases-loop-seat : goal.decreases-loop-seat
decreases-loop-seat l = into_iter_len l.rest
