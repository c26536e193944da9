use Rattle.work_share.proofs.RuleSteps.{admits, cuts}
use Rattle.work_share.proofs.dealing.pass.Goals as goal

pub pass-requires : goal.pass-requires
pass-requires c = admits

pub another-requires : goal.another-requires
another-requires c = cuts _ _ c.requires.parts
