use Rattle.std.proofs.Common.{◌≡◌, ℕ, ◌<◌, get_or, length}
use Rattle.cut_bounds.specs.Boxes.{boxes_on}
use Rattle.cut_bounds.specs.Cuts.{tile_at}
use Rattle.cut_bounds.proofs.BoxLemmas.{held_to}
use Rattle.cut_bounds.proofs.box_holds.holds_by_box.Given as goal

abbrev pub invariant-loop-number : goal.invariant-loop-number
invariant-loop-number l = record {
  tile : l.tile ≡ tile_at l.columns l.number;
  long : length l.holds.items ≡ boxes_on l.boxes.shape l.boxes.level;
  holds : (n : ℕ) → n < boxes_on l.boxes.shape l.boxes.level → get_or l.holds.items n 0 ≡ held_to l.boxes.shape l.boxes.level n l.wires l.number;
}
