use Rattle.cut_bounds.specs.NetTiles.{placed_in}
use Rattle.cut_bounds.proofs.PartedLemmas.{ArePartedTo}
use Rattle.cut_bounds.proofs.net_tiles.NetTiles.parted.Given as goal

abbrev pub invariant-loop-net_need : goal.invariant-loop-net_need
invariant-loop-net_need l = ArePartedTo l.boxes.shape l.boxes.level l.self.net_needs.items l.net_need-index l.rest l.parted (placed_in l.self)
