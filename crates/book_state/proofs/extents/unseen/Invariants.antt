use Rattle.std.proofs.Common.{◌≡◌, [], length}
use Rattle.book_state.specs.Extents.{AreExtents}
use Rattle.book_state.proofs.extents.unseen.Given as goal

abbrev pub invariant-loop : goal.invariant-loop
invariant-loop l = (length l.extents.items ≡ l.counter) × AreExtents l.capacity.shape [] l.extents.items
