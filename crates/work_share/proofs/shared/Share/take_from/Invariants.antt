use Rattle.work_share.specs.HandSteps.{IsDoneFrom}
use Rattle.work_share.proofs.shared.Share.take_from.Given as goal

-- nothing was found so far
abbrev pub invariant-loop-place : goal.invariant-loop-place
invariant-loop-place l = IsDoneFrom l.from l.place l.self l.fn.hand l.hand
