use Rattle.maze_route.proofs.KeepLemmas.{empty-keeps}
use Rattle.maze_route.proofs.queue.BucketQueue.new.Goals as goal

pub invariant_of-result : goal.invariant_of-result
invariant_of-result c = empty-keeps _ _ _ c.new.ensures.items c.new-2.ensures
