use Rattle.std.proofs.Common.{◌≡◌, Some, map, take}
use Rattle.layer_assign.proofs.tiles.whole_spans.Given as goal

abbrev pub invariant-loop-span : goal.invariant-loop-span
invariant-loop-span l = map Some l.whole.items ≡ take l.span-index l.spans
