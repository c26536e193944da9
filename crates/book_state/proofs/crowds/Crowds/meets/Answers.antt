use Rattle.std.proofs.Common.{arith}
use Rattle.book_state.proofs.CrowdTables.{calm-box}
use Rattle.book_state.proofs.crowds.Crowds.meets.Goals as goal

pub returns : goal.returns
returns c = λ capacity l are always.
    calm-box capacity l c.args.self.now c.args.window are c.requires.window (λ y low high. c.loop-y.invariant y low (omega (arith, high, c.loop-y-test.false)))
