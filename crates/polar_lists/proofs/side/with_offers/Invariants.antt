use Rattle.std.proofs.Common.{◌≤◌, ◌+◌, ◌*◌, length}
use Rattle.polar_lists.specs.BothLists.{all_in}
use Rattle.polar_lists.proofs.BothOffers.{AreAdded}
use Rattle.polar_lists.proofs.side.with_offers.Given as goal

abbrev pub invariant-loop-kind : goal.invariant-loop-kind
invariant-loop-kind g l = record {
  are : AreAdded l.node l.offers l.fn.trail (all_in l.fn.side) l.trail (all_in l.side) l.kind;
  steps : l.steps ≤ l.fn.steps + l.kind * (2 * (length (all_in l.fn.side) + length l.offers));
}
