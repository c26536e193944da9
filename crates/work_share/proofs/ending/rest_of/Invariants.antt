use Rattle.std.specs.Vec.Iter.{into_iter_len, into_iter_items}
use Rattle.work_share.proofs.EmptyLemmas.{AreEmptying}
use Rattle.work_share.proofs.ending.rest_of.Given as goal

-- the deques that don't remain are emptied
abbrev pub invariant-loop-owner : goal.invariant-loop-owner
invariant-loop-owner l = AreEmptying l.fn.owners.items (into_iter_items l.rest) l.nets.items

abbrev pub decreases-loop-owner : goal.decreases-loop-owner
decreases-loop-owner l = into_iter_len l.rest
