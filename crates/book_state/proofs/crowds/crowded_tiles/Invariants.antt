use Rattle.std.proofs.Common.{◌≡◌, ◌*◌, length}
use Rattle.book_state.proofs.CrowdTables.{AreNoted}
use Rattle.book_state.proofs.crowds.crowded_tiles.Given as goal

abbrev pub invariant-loop-at : goal.invariant-loop-at
invariant-loop-at l =
    (length l.tiles.items ≡ l.shape.columns * l.shape.rows) × AreNoted l.shape l.over.table l.at l.tiles.items
