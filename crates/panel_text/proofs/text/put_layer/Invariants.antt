use Rattle.std.proofs.Common.{◌≡◌, ℕ, ◌+◌, map}
use Rattle.std.specs.List.{range_with_len}
use Rattle.panel_text.specs.Told.{IsWithin, Tell}
use Rattle.panel_text.proofs.text.put_layer.Given as goal

abbrev pub invariant-loop-line : goal.invariant-loop-line
invariant-loop-line l = record {
  told : Tell l.design l.way l.starts (map (λ line. record { way = l.way; layer = l.layer; line = line }) (range_with_len 0 l.line)) l.initial.told l.told;
  room : (count : ℕ) → IsWithin count l.initial.told → IsWithin (count + l.line) l.told;
}
