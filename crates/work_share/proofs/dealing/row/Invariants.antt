use Rattle.work_share.proofs.RowLemmas.{IsCutting}
use Rattle.work_share.proofs.dealing.row.Given as goal

-- the passes of the deques before the place are made
abbrev pub invariant-loop-place : goal.invariant-loop-place
invariant-loop-place l = IsCutting l.number l.place l.fn.owners.items l.owners.items l.passes.items
