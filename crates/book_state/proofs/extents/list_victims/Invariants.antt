use Rattle.std.proofs.Common.{◌≡◌, length}
use Rattle.std.specs.List.{filter, range_with_len}
use Rattle.book_state.specs.Books.{is_victim}
use Rattle.book_state.specs.Extents.{AreExtents}
use Rattle.book_state.proofs.extents.list_victims.Given as goal

abbrev pub invariant-loop-at : goal.invariant-loop-at
invariant-loop-at l = record {
  long : length l.extents.items ≡ length l.fn.extents.items;
  extents : AreExtents l.capacity.shape l.history l.extents.items;
  victims : l.victims.items ≡ filter (is_victim l.capacity l.history) (range_with_len l.first l.at);
}
