use Rattle.std.proofs.Common.{◌≡◌, ℕ, false, cond, length, take, slice_index_or}
use Rattle.gr_base.specs.Trees.{is_among}
use Rattle.grid_demand.proofs.overfull.clear_places.Given as goal

abbrev pub invariant-loop-place : goal.invariant-loop-place
invariant-loop-place l = record {
  long : length l.over.items ≡ length l.fn.over.items;
  each : (n : ℕ) → slice_index_or l.over.items n false
      ≡ cond (is_among (take l.place-index l.places) n) false (slice_index_or l.fn.over.items n false);
}
