use Rattle.std.proofs.Common.{◌≡◌, ℕ, ◌<◌, Some, None, length, slice_get, if◌then◌else◌}
use Rattle.layer_assign.specs.Spans.{widened}
use Rattle.layer_assign.specs.Choices.{entry}
use Rattle.layer_assign.proofs.limbs.limb_of.Given as goal

abbrev pub invariant-loop-layer : goal.invariant-loop-layer
invariant-loop-layer g l = record {
  count : length l.limb.below ≡ 16;
  below : (layer : ℕ) → layer < l.layer → slice_get l.limb.below layer ≡
      Some (if g.C.Costs.ways l.costs layer l.edge.way then Some (entry l.shape.layers l.least l.node (widened l.base layer)) else None);
}
