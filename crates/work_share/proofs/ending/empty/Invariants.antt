use Rattle.std.proofs.Common.{◌-◌, length}
use Rattle.crossbeam_deque.specs.Handles.{worker_view}
use Rattle.work_share.proofs.EmptyLemmas.{IsEmptying}
use Rattle.work_share.proofs.ending.empty.Given as goal

abbrev pub invariant-loop-net : goal.invariant-loop-net
invariant-loop-net l = IsEmptying l.fn.owner l.owner l.fn.nets.items l.nets.items

abbrev pub decreases-loop-net : goal.decreases-loop-net
decreases-loop-net l = length (worker_view l.owner).put - length (worker_view l.owner).taken
