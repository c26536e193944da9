use Rattle.ripup_workers.proofs.TurningStages.{followed, ok-all}
use Rattle.ripup_workers.proofs.ground.Ground.search.Goals as goal

pub returns-clause-learnt : goal.returns-clause-learnt
returns-clause-learnt g c = λ t over.
    ok-all c.plan.result (followed t _ _ _ _ _ over c.requires.capacity_is c.in_ok-sync.ensures.learnt c.in_ok-sync.ensures.before c.in_ok-sync.ensures.pass)
