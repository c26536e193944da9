use Rattle.std.proofs.Common.{◌≡◌, ◌<◌, ℕ, Some, slice_get}
use Rattle.track_book.specs.Passes.{PassView}
use Rattle.book_rows.proofs.closing.are_by_number.Given as goal

-- the passes up to here have their numbers
abbrev pub invariant-loop-number : goal.invariant-loop-number
invariant-loop-number g l = (at : ℕ) (p : PassView) → at < l.number → slice_get l.passes.items at ≡ Some p → p.number ≡ at
