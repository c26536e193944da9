use Rattle.std.proofs.Common.{◌≡◌, List, ◌++◌, ap, ◌∙◌}
use Rattle.route_evaluator.specs.RunSets.{gathered}
use Rattle.solution_text.specs.declared.run.Run.{Run}
use Rattle.solution_text.specs.Runs.{runs_of_way}
use Rattle.panel_text.proofs.StartLemmas.{way-inside}
use Rattle.panel_text.proofs.gathered.add_way.Goals as goal

pub add_all-requires-clause-runs : goal.add_all-requires-clause-runs
add_all-requires-clause-runs c =
    way-inside c.args.shape c.args.maker.now.edges.items c.args.way c.deref.result.now c.requires.maker.grid
    (c.deref.ensures.value ∙ c.in_ok-push_way.ensures.runs ∙ ap (λ (rs : List Run). rs ++ runs_of_way c.args.shape (gathered c.args.maker.now) c.args.way) c.clear.ensures.items)
