use Rattle.std.proofs.Common.{arith}
use Rattle.net_plan.proofs.HalvingLemmas.{halved-shift}
use Rattle.net_plan.proofs.scarcity.Halving.by.Goals as goal

pub returns-clause-same : goal.returns-clause-same
returns-clause-same c =
    let need = c.args.need in
    halved-shift c.args.self.number c.args.self.room need c.args.nets (omega (arith, c.requires.some)) (omega (arith, c.if-self-wanted.false))
