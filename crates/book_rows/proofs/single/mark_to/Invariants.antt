use Rattle.std.proofs.Common.{◌≡◌}
use Rattle.book_rows.proofs.single.mark_to.Given as goal

abbrev pub invariant-loop : goal.invariant-loop
invariant-loop l = l.book.capacity ≡ l.fn.book.capacity
