use Rattle.std.proofs.Common.{◌≡◌, ◌++◌}
use Rattle.gr_base.specs.Designs.{DesignView}
use Rattle.cut_bounds.specs.Candidates.{AreMeasured}
use Rattle.cut_bounds.specs.Cuts.{tile_at}
use Rattle.cut_bounds.proofs.CandidateLemmas.{candidates_to}
use Rattle.cut_bounds.proofs.candidates.push_overfull.Given as goal

abbrev pub invariant-loop-number : goal.invariant-loop-number
invariant-loop-number l = record {
  place : l.place ≡ tile_at l.boxes.across l.number;
  found : (d : DesignView) → d.frame.shape ≡ l.boxes.shape → AreMeasured d l.boxes.level l.needs l.holds →
      l.found.items ≡ l.initial.found.items ++ candidates_to d l.boxes.level l.number;
}
