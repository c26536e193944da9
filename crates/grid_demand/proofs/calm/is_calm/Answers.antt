use Rattle.std.proofs.Common.{arith}
use Rattle.grid_demand.proofs.CalmRuns.{calm-run}
use Rattle.grid_demand.proofs.calm.is_calm.Goals as goal

pub returns : goal.returns
returns c = λ yes.
    calm-run c.args.demands.now c.args.capacities.now c.args.run c.saturating_mul.result c.min-from.result c.min-to.result
    (omega (arith, c.len-wires.ensures, c.len-wires.type_inv)) (omega (arith, c.saturating_mul.ensures)) (omega (arith, c.min-from.ensures, c.len-wires.ensures))
    (omega (arith, c.min-to.ensures, c.saturating_add.ensures, c.len-wires.ensures)) (c.may_exceed.ensures (grind (arith, yes)))
