use Rattle.std.proofs.Common.{◌∙◌}
use Rattle.solution_text.specs.declared.run.Run.{Run}
use Rattle.route_evaluator.proofs.GatherLemmas.{gather-next}
use Rattle.route_evaluator.proofs.gather.gather.Goals as goal

pub loop-run-preserved : goal.loop-run-preserved
loop-run-preserved c = record {
  bound = c.in_ok-add_run.ensures.bound ∙ c.loop-run.invariant.bound;
  edges =
      let d : Run = record { from = 0; to = 0 } in
      gather-next c.args.shape c.args.runs.now c.loop-run.run-index d c.args.edges.now.numbers c.loop-run.edges.numbers c.add_run.new.edges.numbers
      c.loop-run-test.true c.loop-run.invariant.edges c.in_ok-add_run.ensures.edges;
}
