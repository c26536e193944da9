use Rattle.std.proofs.Common.{refl}
use Rattle.book_front.proofs.Prefixes.{prefix-all}
use Rattle.ripup_workers.proofs.worker.Worker.hold.Goals as goal

pub returns-then-holds_all-clause-learnt : goal.returns-then-holds_all-clause-learnt
returns-then-holds_all-clause-learnt g c =
    record { begins = prefix-all c.args.self.now.pass.seen; mine = refl; number = refl; legal = c.known-known.ensures.pass.legal }
