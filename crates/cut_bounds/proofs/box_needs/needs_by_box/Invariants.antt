use Rattle.cut_bounds.specs.NetTiles.{placed_in}
use Rattle.cut_bounds.proofs.BoxLemmas.{AreBoxedTo}
use Rattle.cut_bounds.proofs.box_needs.needs_by_box.Given as goal

abbrev pub invariant-loop-net_need : goal.invariant-loop-net_need
invariant-loop-net_need l =
    AreBoxedTo l.boxes.shape l.boxes.level l.nets.net_needs.items l.net_need-index l.rest l.found.needs.items l.found.marks.items l.mark (placed_in l.nets)
