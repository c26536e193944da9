use Rattle.std.proofs.Common.{◌≡◌}
use Rattle.book_rows.proofs.alone.game.Given as goal

abbrev pub invariant-loop-act : goal.invariant-loop-act
invariant-loop-act g l = l.book.capacity ≡ l.capacity
