use Rattle.std.specs.Prelude.{◌≤◌, ◌+◌, ◌*◌, length}
use Rattle.std.specs.Vec.{vec_len, vec_capacity}
use Rattle.ginneken_lists.specs.Pairs.{IsList}
use Rattle.ginneken_lists.specs.StoredPairs.{pairs_of}
use Rattle.ginneken_lists.specs.Trails.{trail_of}
use Rattle.ginneken_lists.proofs.OfferLemmas.{AreOffered}
use Rattle.ginneken_lists.proofs.offering.offer_each.Given as goal

abbrev pub invariant-loop-kind : goal.invariant-loop-kind
invariant-loop-kind g l = record {
  are : AreOffered l.found l.node (trail_of l.fn.choices.items) l.fn.pairs.items l.pairs.items l.choices.items l.kind;
  list : IsList (pairs_of l.pairs.items);
  room : vec_len l.pairs + length l.found ≤ vec_capacity l.pairs + l.kind;
  choice_room : vec_len l.choices + length l.found ≤ vec_capacity l.choices + l.kind;
  short : length l.pairs.items ≤ length l.fn.pairs.items + l.kind;
  steps : l.steps ≤ l.fn.steps + l.kind * (2 * (length l.fn.pairs.items + length l.found));
}
