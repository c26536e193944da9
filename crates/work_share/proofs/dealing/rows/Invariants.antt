use Rattle.work_share.proofs.RowLemmas.{AreCutting}
use Rattle.work_share.proofs.dealing.rows.Given as goal

-- the passes of the hands before the number are made
abbrev pub invariant-loop-number : goal.invariant-loop-number
invariant-loop-number l = AreCutting l.number l.fn.owners.items l.owners.items l.rows.items
