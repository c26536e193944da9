use Rattle.std.specs.Prelude.{take}
use Rattle.ripup_workers.specs.Crews.{HasAttemptedOver}
use Rattle.ripup_workers.proofs.round.attempt_rest.Given as goal

-- the nets so far are attempted
abbrev pub invariant-loop-net : goal.invariant-loop-net
invariant-loop-net g l =
    HasAttemptedOver l.task.design.now l.task.rule.now.formula l.round (take l.net-index l.nets) l.fn.worker.pass l.worker.pass
