use Rattle.std.specs.Vec.Iter.{into_iter_len, into_iter_items}
use Rattle.work_share.proofs.GatherLemmas.{AreGathering}
use Rattle.work_share.proofs.ending.gather.Given as goal

-- the rows that don't remain are gathered
abbrev pub invariant-loop-row : goal.invariant-loop-row
invariant-loop-row l = AreGathering l.fn.owners.items l.fn.rows.items (into_iter_items l.rest) l.owners.items

abbrev pub decreases-loop-row : goal.decreases-loop-row
decreases-loop-row l = into_iter_len l.rest
