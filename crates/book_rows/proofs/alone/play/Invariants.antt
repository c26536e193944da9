use Rattle.std.proofs.Common.{◌≡◌}
use Rattle.book_rows.proofs.alone.play.Given as goal

abbrev pub invariant-loop-step : goal.invariant-loop-step
invariant-loop-step g l = l.book.capacity ≡ l.fn.book.capacity
