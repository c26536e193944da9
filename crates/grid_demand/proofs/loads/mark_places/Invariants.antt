use Rattle.std.proofs.Common.{◌≡◌, ℕ, ◌<◌, length, take, slice_index}
use Rattle.grid_demand.specs.LoadSums.{mark_where}
use Rattle.gr_base.specs.Trees.{is_among}
use Rattle.grid_demand.proofs.loads.mark_places.Given as goal

abbrev pub invariant-loop-place : goal.invariant-loop-place
invariant-loop-place l = record {
  long : length l.marks ≡ length l.fn.marks;
  each : (n : ℕ) → n < length l.fn.marks → slice_index l.marks n
      ≡ mark_where (is_among (take l.place-index l.places) n) (slice_index l.fn.marks n);
}
