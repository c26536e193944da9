use Rattle.cut_bounds.specs.NetTiles.{placed_in}
use Rattle.cut_bounds.proofs.CutLemmas.{AreCountedTo}
use Rattle.cut_bounds.proofs.cuts.ends_by_line.Given as goal

abbrev pub invariant-loop-net_need : goal.invariant-loop-net_need
invariant-loop-net_need l =
    AreCountedTo l.axis l.lines l.nets.net_needs.items l.net_need-index l.rest l.ends.begun.items l.ends.ended.items (placed_in l.nets)
