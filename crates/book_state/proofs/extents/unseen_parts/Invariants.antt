use Rattle.std.proofs.Common.{◌≡◌, ◌≤◌, ◌-◌, [], All}
use Rattle.std.specs.List.{flat_map, range_with_len}
use Rattle.book_state.specs.Extents.{nets_in, IsPart}
use Rattle.book_state.proofs.extents.unseen_parts.Given as goal

abbrev pub invariant-loop-first : goal.invariant-loop-first
invariant-loop-first l = record {
  within : l.first ≤ l.nets;
  each : All (IsPart l.capacity []) l.parts.items;
  nets : flat_map nets_in l.parts.items ≡ range_with_len 0 l.first;
}

abbrev pub decreases-loop-first : goal.decreases-loop-first
decreases-loop-first l = l.nets - l.first
