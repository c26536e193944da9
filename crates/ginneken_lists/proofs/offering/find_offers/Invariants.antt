use Rattle.std.specs.Prelude.{◌≤◌, ◌+◌, ◌*◌, length}
use Rattle.ginneken_lists.proofs.OfferLemmas.{AreFound}
use Rattle.ginneken_lists.proofs.offering.find_offers.Given as goal

abbrev pub invariant-loop-number : goal.invariant-loop-number
invariant-loop-number g l = record {
  are : AreFound l.library l.pairs l.found.items l.number;
  steps : l.steps ≤ l.fn.steps + l.number * (length l.pairs + 1);
}
