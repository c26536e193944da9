use Rattle.std.proofs.Common.{◌≡◌, ◌-◌}
use Rattle.route_evaluator.proofs.GatherLemmas.{IsUnderWay}
use Rattle.route_evaluator.proofs.gather.add_run.Given as goal

abbrev pub invariant-loop-low : goal.invariant-loop-low
invariant-loop-low l = record {
  bound : l.edges.bound ≡ l.fn.edges.bound;
  under : IsUnderWay l.shape l.fn.run l.way l.low l.fn.edges.numbers l.edges.numbers;
}

abbrev pub decreases-loop-low : goal.decreases-loop-low
decreases-loop-low l = l.high - l.low
