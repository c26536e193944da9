use Rattle.std.proofs.Common.{ℕ, ◌<◌, ◌≤◌, slice_index}
use Rattle.price_bounds.proofs.bounding.most_weight.Given as goal

abbrev pub invariant-loop-weight : goal.invariant-loop-weight
invariant-loop-weight l = (n : ℕ) → n < l.weight-index → slice_index l.weights n ≤ l.most
