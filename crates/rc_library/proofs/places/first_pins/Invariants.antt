use Rattle.std.proofs.Common.{◌≡◌, ℕ, take, map}
use Rattle.std.specs.List.{range_with_len}
use Rattle.gr_base.specs.Designs.{pins_of}
use Rattle.rc_library.proofs.places.first_pins.Given as goal

abbrev pub invariant-loop-net : goal.invariant-loop-net
invariant-loop-net l = record {
  firsts : l.firsts.items ≡ map (λ (n : ℕ). pins_of (take n l.design.nets)) (range_with_len 0 l.net);
  pins : l.pins ≡ pins_of (take l.net l.design.nets);
}
