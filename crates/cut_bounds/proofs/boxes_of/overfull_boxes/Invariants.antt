use Rattle.std.proofs.Common.{◌≡◌}
use Rattle.cut_bounds.specs.Candidates.{AreLeft}
use Rattle.cut_bounds.proofs.DesignLemmas.{candidates_below}
use Rattle.cut_bounds.proofs.boxes_of.overfull_boxes.Given as goal

abbrev pub invariant-loop-level : goal.invariant-loop-level
invariant-loop-level l = record {
  found : l.found.items ≡ candidates_below l.design l.level;
  left : AreLeft l.design l.level l.left;
}
