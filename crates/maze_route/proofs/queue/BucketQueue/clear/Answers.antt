use Rattle.maze_route.proofs.KeepLemmas.{empty-keeps}
use Rattle.maze_route.proofs.queue.BucketQueue.clear.Goals as goal

pub invariant_of-self : goal.invariant_of-self
invariant_of-self c = empty-keeps _ _ _ c.clear.ensures.items c.new-self-inside.ensures
