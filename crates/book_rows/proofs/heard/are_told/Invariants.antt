use Rattle.std.proofs.Common.{◌≤◌, length}
use Rattle.book_rows.proofs.heard.are_told.Given as goal

abbrev pub invariant-loop-at : goal.invariant-loop-at
invariant-loop-at l = l.next ≤ length l.replies
