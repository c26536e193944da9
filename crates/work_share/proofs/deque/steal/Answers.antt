use Rattle.std.proofs.Common.{◌<◌, subst, sym}
use Rattle.work_share.specs.declared.account.Account.{Account}
use Rattle.work_share.proofs.RuleSteps.{takes}
use Rattle.work_share.proofs.deque.steal.Goals as goal

pub steal_as-requires-clause-takes : goal.steal_as-requires-clause-takes
steal_as-requires-clause-takes c = takes _ _ (subst (λ (a : Account). 0 < a.parts) (sym c.loop.invariant.2) c.requires.part)
