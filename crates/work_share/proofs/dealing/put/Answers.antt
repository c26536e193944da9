use Rattle.work_share.proofs.RuleSteps.{puts}
use Rattle.work_share.proofs.dealing.put.Goals as goal

pub push_as-requires-clause-pushes : goal.push_as-requires-clause-pushes
push_as-requires-clause-pushes c = puts _ _ _ c.requires
