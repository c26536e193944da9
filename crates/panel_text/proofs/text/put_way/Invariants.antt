use Rattle.std.proofs.Common.{◌≡◌, ℕ, ◌+◌, ◌*◌, ◌^◌}
use Rattle.std.specs.List.{flat_map, range_with_len}
use Rattle.panel_text.specs.Places.{places_on}
use Rattle.panel_text.specs.Told.{IsWithin, Tell}
use Rattle.panel_text.proofs.text.put_way.Given as goal

abbrev pub invariant-loop-layer : goal.invariant-loop-layer
invariant-loop-layer l = record {
  told : Tell l.design l.way l.starts (flat_map (places_on l.design.frame.shape l.way) (range_with_len 0 l.layer)) l.initial.told l.told;
  room : (count : ℕ) → IsWithin count l.initial.told → IsWithin (count + l.layer * 2 ^ 23) l.told;
}
