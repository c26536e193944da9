use Rattle.std.proofs.Common.{ap}
use Rattle.route_evaluator.specs.NumberSets.{NumberSetView}
use Rattle.route_evaluator.proofs.CountedLemmas.{gathered-is, gathered-grid}
use Rattle.route_evaluator.proofs.gather.gather_net.Goals as goal

pub returns-clause-edges : goal.returns-clause-edges
returns-clause-edges c =
    gathered-is c.args.design.now c.args.solution.now c.args.net c.frame.result.now c.args.edges.now.numbers c.gather.new.edges.numbers c.runs.result.now c.requires.of
    c.frame.ensures.frame (ap (λ (s : NumberSetView). s.numbers) c.requires.empty) c.runs.ensures.runs c.in_ok-gather.ensures.edges

pub returns-clause-grid : goal.returns-clause-grid
returns-clause-grid c =
    gathered-grid c.args.design.now c.args.solution.now c.args.net c.gather.new.edges.numbers c.requires.of
    (gathered-is c.args.design.now c.args.solution.now c.args.net c.frame.result.now c.args.edges.now.numbers c.gather.new.edges.numbers c.runs.result.now c.requires.of
    c.frame.ensures.frame (ap (λ (s : NumberSetView). s.numbers) c.requires.empty) c.runs.ensures.runs c.in_ok-gather.ensures.edges)
