use Rattle.std.specs.Prelude.{◌≡◌, ◌+◌, ◌≤◌, length, drop}
use Rattle.ginneken_lists.specs.Candidates.{driven_time}
use Rattle.ginneken_lists.specs.StoredPairs.{time_of}
use Rattle.ginneken_lists.proofs.StoredLemmas.{sight}
use Rattle.ginneken_lists.proofs.Driving.{Leads}
use Rattle.ginneken_lists.proofs.offering.best_driven.Given as goal

abbrev pub invariant-loop-at : goal.invariant-loop-at
invariant-loop-at g l = record {
  leads : Leads sight l.r (drop l.at l.pairs) l.best;
  latest : time_of l.most ≡ driven_time l.r (sight l.best);
  steps : l.steps + l.at ≡ l.fn.steps + length l.pairs + 1;
  within : l.at ≤ length l.pairs;
}
