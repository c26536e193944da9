use Rattle.std.proofs.Common.{◌≡◌, take}
use Rattle.route_evaluator.specs.Gathers.{covered_by, Adds}
use Rattle.route_evaluator.proofs.gather.gather.Given as goal

abbrev pub invariant-loop-run : goal.invariant-loop-run
invariant-loop-run l = record {
  bound : l.edges.bound ≡ l.fn.edges.bound;
  edges : Adds (covered_by l.shape (take l.run-index l.runs)) l.fn.edges.numbers l.edges.numbers;
}
