use Rattle.std.specs.Prelude.{◌≡◌, ◌≤◌, ◌+◌}
use Rattle.std.specs.Vec.{vec_len, vec_capacity}
use Rattle.ginneken_lists.proofs.Placing.{AreCleared}
use Rattle.ginneken_lists.proofs.insertion.remove_served.Given as goal

abbrev pub invariant-loop-pair : goal.invariant-loop-pair
invariant-loop-pair g l = record {
  are : AreCleared l.pair l.fn.pairs.items l.pairs.items l.at;
  len : vec_len l.pairs ≤ vec_len l.fn.pairs;
  room : vec_capacity l.pairs ≡ vec_capacity l.fn.pairs;
  steps : l.steps + vec_len l.pairs ≡ l.fn.steps + vec_len l.fn.pairs;
}

abbrev pub decreases-loop-pair : goal.decreases-loop-pair
decreases-loop-pair g l = vec_len l.pairs
