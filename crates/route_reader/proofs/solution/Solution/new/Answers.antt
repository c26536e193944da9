use Rattle.route_reader.proofs.SolutionLemmas.{each-run}
use Rattle.route_reader.proofs.solution.Solution.new.Goals as goal

pub invariant_of-result : goal.invariant_of-result
invariant_of-result c = record {
  within = c.requires.stretches;
  each = each-run c.args.shape c.args.runs.items c.args.stretches.items c.requires.runs;
}
