use Rattle.std.specs.Prelude.{◌+◌, ◌≤◌, vec_len}
use Rattle.std.specs.Vec.{vec_capacity}
use Rattle.std.specs.Vec.Iter.{into_iter_len, into_iter_items}
use Rattle.track_book.proofs.Dealing.{IsEnding}
use Rattle.track_book.proofs.closed.close.Given as goal

-- the passes that don't remain gave their seats, and there is room for the others'
abbrev pub invariant-loop-pass : goal.invariant-loop-pass
invariant-loop-pass g l = IsEnding g.N.BookName.word l.fn.passes.items (into_iter_items l.rest) l.seats.items × (into_iter_len l.rest + vec_len l.seats ≤ vec_capacity l.seats)

abbrev pub decreases-loop-pass : goal.decreases-loop-pass
decreases-loop-pass g l = into_iter_len l.rest
