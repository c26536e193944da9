use Rattle.std.proofs.Common.{◌≡◌, ℕ, false, length, take, slice_index_or, if◌then◌else◌}
use Rattle.route_evaluator.specs.NumberSets.{has_number}
use Rattle.route_evaluator.proofs.number_set.unmark.Given as goal

abbrev pub invariant-loop-number : goal.invariant-loop-number
invariant-loop-number l = record {
  long : length l.marks.items ≡ length l.fn.marks.items;
  set : (n : ℕ) → slice_index_or l.marks.items n false ≡ (if has_number (take l.number-index l.numbers) n then false else slice_index_or l.fn.marks.items n false);
}
