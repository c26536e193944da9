use Rattle.std.proofs.Common.{◌≡◌, ℕ, ◌+◌, ◌-◌, ◌<◌, ◌≤◌, Some, length, slice_get}
use Rattle.layer_assign.specs.Runs.{a_climb_more, best_from}
use Rattle.layer_assign.specs.Tables.{number_in}
use Rattle.layer_assign.proofs.runs.bests_above.Given as goal

abbrev pub invariant-loop-layer : goal.invariant-loop-layer
invariant-loop-layer l = record {
  count : length l.above ≡ 16;
  most : l.layer ≤ l.fn.shape.layers;
  above : (k : ℕ) → l.layer ≤ k → k < l.fn.shape.layers → slice_get l.above k ≡ Some (a_climb_more (best_from (number_in l.limbs) (k + 1) (l.fn.shape.layers - (k + 1))));
  best : l.best ≡ best_from (number_in l.limbs) l.layer (l.fn.shape.layers - l.layer);
}
