use Rattle.std.proofs.Common.{◌≡◌, ◌%◌, length}
use Rattle.book_state.specs.Crowds.{AreColumns}
use Rattle.book_state.proofs.CrowdTables.{IsBefore}
use Rattle.book_state.proofs.crowds.last_columns.Given as goal

abbrev pub invariant-loop-crowded : goal.invariant-loop-crowded
invariant-loop-crowded l = record {
  long : length l.last.items ≡ l.crowded-index;
  done : AreColumns l.shape.columns l.tiles l.last.items;
  column : l.column ≡ l.crowded-index % l.shape.columns;
  before : IsBefore l.shape.columns l.tiles l.crowded-index l.told;
}
