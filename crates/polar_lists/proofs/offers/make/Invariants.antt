use Rattle.std.proofs.Common.{ℕ, ◌≤◌, ◌+◌, ◌*◌, length}
use Rattle.polar_lists.specs.BothLists.{all_in}
use Rattle.polar_lists.proofs.BothOffers.{AreMade}
use Rattle.polar_lists.proofs.offers.make.Given as goal

abbrev pub invariant-loop-number : goal.invariant-loop-number
invariant-loop-number g l = record {
  are : AreMade l.library (all_in l.own) (all_in l.other) l.found.items l.number;
  steps : (most : ℕ) → length (all_in l.own) ≤ most → length (all_in l.other) ≤ most → l.steps ≤ l.fn.steps + l.number * (most + 1);
}
