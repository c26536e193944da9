use Rattle.std.specs.Prelude.{◌+◌, ◌≤◌, vec_len}
use Rattle.std.specs.Vec.{vec_capacity}
use Rattle.std.specs.Vec.Iter.{into_iter_len, into_iter_items}
use Rattle.track_book.proofs.Dealing.{IsDealing}
use Rattle.track_book.proofs.pass.passes_of.Given as goal

-- the seats that don't remain have their passes, and there is room for the others'
abbrev pub invariant-loop-seat : goal.invariant-loop-seat
invariant-loop-seat g l = IsDealing l.fn.seats.items (into_iter_items l.rest) l.passes.items × (into_iter_len l.rest + vec_len l.passes ≤ vec_capacity l.passes)

abbrev pub decreases-loop-seat : goal.decreases-loop-seat
decreases-loop-seat g l = into_iter_len l.rest
