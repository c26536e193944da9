use Rattle.std.specs.Vec.Iter.{into_iter_len, into_iter_items}
use Rattle.work_share.proofs.GatherLemmas.{IsGathering}
use Rattle.work_share.proofs.ending.gather_row.Given as goal

-- the passes before the place are gathered
abbrev pub invariant-loop-pass : goal.invariant-loop-pass
invariant-loop-pass l = IsGathering l.fn.owners.items l.fn.row.items l.place (into_iter_items l.rest) l.owners.items

abbrev pub decreases-loop-pass : goal.decreases-loop-pass
decreases-loop-pass l = into_iter_len l.rest
