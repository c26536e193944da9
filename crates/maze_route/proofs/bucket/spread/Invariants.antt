use Rattle.maze_route.specs.Spreading.{IsSpreading, IsSpread}
use Rattle.std.proofs.Common.{ℕ, List, Option}
use Rattle.maze_route.proofs.LengthLemmas.{to_go}
use Rattle.maze_route.proofs.bucket.spread.Given as goal

abbrev pub invariant-loop-at : goal.invariant-loop-at
invariant-loop-at l = record {
  is : IsSpread l.slots.items l.heads l.at l.last;
  all : (free : Option ℕ) (bucket : ℕ) (pairs : List (ℕ × ℕ)) → IsSpreading l.fn.slots.items l.fn.heads free l.fn.first l.last bucket pairs → IsSpreading l.slots.items l.heads free l.at l.last bucket pairs;
}

abbrev pub decreases-loop-at : goal.decreases-loop-at
decreases-loop-at l = to_go l.slots.items l.at
