use Rattle.net_plan.proofs.FlatLemmas.{if-both}
use Rattle.ripup_workers.proofs.TurningStages.{tried-so}
use Rattle.ripup_workers.proofs.ground.Ground.claim.Goals as goal

pub returns : goal.returns
returns g c = λ t over.
    if-both c.claim.result
    (λ reply answered known. tried-so t _ _ _ _ _ _ _ reply _ _ over c.requires.design.capacity_is c.claim.ensures.before known c.requires.plan answered)
    c.claim.ensures.reply c.claim.ensures.pass
