use Rattle.std.specs.Vec.Iter.{into_iter_len, into_iter_items}
use Rattle.work_share.proofs.EndLemmas.{IsParting}
use Rattle.work_share.proofs.ending.part.Given as goal

-- the hands that don't remain are taken apart
abbrev pub invariant-loop-hand : goal.invariant-loop-hand
invariant-loop-hand l = IsParting l.fn.hands.items (into_iter_items l.rest) l.owners.items l.rows.items l.taken.items

abbrev pub decreases-loop-hand : goal.decreases-loop-hand
decreases-loop-hand l = into_iter_len l.rest
