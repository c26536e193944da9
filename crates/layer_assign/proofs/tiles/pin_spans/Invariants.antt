use Rattle.std.proofs.Common.{◌≡◌, ℕ, ◌<◌, length, take}
use Rattle.layer_assign.specs.Spans.{span_of, growing}
use Rattle.layer_assign.specs.Assignments.{tile_at, pin_layers}
use Rattle.layer_assign.proofs.tiles.pin_spans.Given as goal

abbrev pub invariant-loop-pin : goal.invariant-loop-pin
invariant-loop-pin l = record {
  count : length l.spans.items ≡ length l.flat.nodes;
  spans : (node : ℕ) → node < length l.flat.nodes → growing l.spans.items node ≡ span_of (pin_layers l.fn.shape (take l.pin-index l.pins) (tile_at l.flat node));
}
