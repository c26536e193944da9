use Rattle.std.proofs.Common.{length}
use Rattle.steiner_topology.proofs.WaitLemmas.{IsWaiting}
use Rattle.steiner_topology.proofs.prim.joins_of.Given as goal

abbrev pub invariant-loop-waiting : goal.invariant-loop-waiting
invariant-loop-waiting l = IsWaiting l.tiles l.joins.items l.point l.waiting.items

abbrev pub decreases-loop-waiting : goal.decreases-loop-waiting
decreases-loop-waiting l = length l.waiting.items
