use Rattle.std.proofs.Common.{length}
use Rattle.work_share.proofs.DealLemmas.{IsDealing}
use Rattle.work_share.proofs.dealing.deal.Given as goal

-- the nets before the place were put in
abbrev pub invariant-loop-place : goal.invariant-loop-place
invariant-loop-place l = IsDealing (length l.fn.owners.items) l.nets l.place l.owners.items
