use Rattle.std.proofs.Common.{map, take}
use Rattle.cut_bounds.specs.Boxes.{box_number, AreMarked}
use Rattle.cut_bounds.proofs.box_needs.BoxNeeds.add_net.Given as goal

abbrev pub invariant-loop-tile : goal.invariant-loop-tile
invariant-loop-tile l =
    AreMarked (map (box_number l.boxes.shape l.boxes.level) (take l.tile-index l.tiles)) l.initial.self.needs.items l.need l.mark l.self.needs.items l.self.marks.items
