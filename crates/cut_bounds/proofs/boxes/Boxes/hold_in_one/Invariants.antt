use Rattle.std.proofs.Common.{◌≡◌, ◌==◌, true, map, take}
use Rattle.std.specs.List.{list_all}
use Rattle.cut_bounds.specs.Boxes.{box_number}
use Rattle.cut_bounds.proofs.boxes.Boxes.hold_in_one.Given as goal

abbrev pub invariant-loop-tile : goal.invariant-loop-tile
invariant-loop-tile l = list_all (λ number. number == l.first) (map (box_number l.self.shape l.self.level) (take l.tile-index l.tiles)) ≡ true
