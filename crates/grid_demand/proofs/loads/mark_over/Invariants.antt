use Rattle.std.proofs.Common.{◌≡◌, ℕ, ◌<◌, ◌≤◌, false, length, slice_index}
use Rattle.grid_demand.specs.LoadSums.{mark_of}
use Rattle.grid_demand.proofs.loads.mark_over.Given as goal

abbrev pub invariant-loop-at : goal.invariant-loop-at
invariant-loop-at l = record {
  long : length l.marks ≡ length l.fn.marks;
  done : (n : ℕ) → n < l.at → slice_index l.marks n ≡ mark_of (slice_index l.demands n) (slice_index l.capacities n) (slice_index l.fn.marks n);
  rest : (n : ℕ) → l.at ≤ n → slice_index l.marks n ≡ slice_index l.fn.marks n;
  none : l.any ≡ false → l.marks ≡ l.fn.marks;
}
