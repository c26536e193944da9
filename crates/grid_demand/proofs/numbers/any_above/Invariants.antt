use Rattle.std.proofs.Common.{◌≡◌, ℕ, ◌<◌, ◌≤◌, false, slice_index}
use Rattle.grid_demand.proofs.numbers.any_above.Given as goal

abbrev pub invariant-loop-at : goal.invariant-loop-at
invariant-loop-at l = l.above ≡ false → (n : ℕ) → l.from ≤ n → n < l.at → slice_index l.numbers n ≤ slice_index l.bounds n
