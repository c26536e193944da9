use Rattle.maze_route.proofs.LengthLemmas.{to_go}
use Rattle.maze_route.proofs.ChainSteps.{IsLeastSoFar}
use Rattle.maze_route.proofs.bucket.least_key.Given as goal

abbrev pub invariant-loop-at : goal.invariant-loop-at
invariant-loop-at l = IsLeastSoFar l.slots l.fn.first l.at l.least

abbrev pub decreases-loop-at : goal.decreases-loop-at
decreases-loop-at l = to_go l.slots l.at
