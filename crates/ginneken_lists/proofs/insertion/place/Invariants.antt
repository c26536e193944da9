use Rattle.std.specs.Prelude.{◌≡◌, ◌+◌, drop}
use Rattle.ginneken_lists.specs.Offering.{place_of}
use Rattle.ginneken_lists.proofs.StoredLemmas.{sight}
use Rattle.ginneken_lists.proofs.insertion.place.Given as goal

abbrev pub invariant-loop-at : goal.invariant-loop-at
invariant-loop-at g l = record {
  rest : place_of (sight l.pair) l.at (drop l.at l.pairs) ≡ place_of (sight l.pair) 0 l.pairs;
  steps : l.steps ≡ l.fn.steps + l.at;
}
