use Rattle.ripup_workers.specs.Giving.{HasGiven}
use Rattle.ripup_workers.specs.Rounding.{setting_of}
use Rattle.ripup_workers.proofs.given.claim_given.Given as goal

-- the trees given to the nets so far are claimed
abbrev pub invariant-loop-net : goal.invariant-loop-net
invariant-loop-net g l = HasGiven (setting_of l.asked) l.net l.worker.pass
