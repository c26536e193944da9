use Rattle.cut_bounds.specs.NetTiles.{placed_in}
use Rattle.cut_bounds.proofs.CutLemmas.{AreNeeds}
use Rattle.cut_bounds.proofs.cuts.needs_by_line.Given as goal

abbrev pub invariant-loop-line : goal.invariant-loop-line
invariant-loop-line l = AreNeeds l.fn.axis (placed_in l.nets) l.line l.need l.ends.begun.items l.ends.ended.items l.needs.items
