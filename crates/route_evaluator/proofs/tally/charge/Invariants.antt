use Rattle.std.proofs.Common.{◌≡◌, take}
use Rattle.route_evaluator.proofs.ChargeSteps.{HasGained}
use Rattle.route_evaluator.proofs.tally.charge.Given as goal

abbrev pub invariant-loop-number : goal.invariant-loop-number
invariant-loop-number l = record {
  shape : l.loads.shape ≡ l.fn.loads.shape;
  demand : HasGained l.capacity l.fn.net (take l.number-index l.edges.numbers) l.fn.loads l.loads;
}
