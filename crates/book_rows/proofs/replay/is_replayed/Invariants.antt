use Rattle.std.proofs.Common.{◌≡◌, length}
use Rattle.grid_demand.specs.Tables.{capacity_of}
use Rattle.book_rows.proofs.replay.is_replayed.Given as goal

-- the book has as many entries as were called
abbrev pub invariant-loop-at : goal.invariant-loop-at
invariant-loop-at l = (l.book.capacity ≡ capacity_of l.design) × (length l.book.history ≡ l.at)
