use Rattle.std.proofs.Common.{ap, ◌∙◌}
use Rattle.pattern_route.specs.declared.line.Line.{Line}
use Rattle.pattern_route.specs.Steps.{toward}
use Rattle.pattern_route.specs.Walks.{step_cost}
use Rattle.pattern_route.specs.Lines.{place_on}
use Rattle.pattern_route.proofs.CrossingLemmas.{step-to-come, at-next}
use Rattle.pattern_route.proofs.crossing.next.Goals as goal

pub overflow_sub-result : goal.overflow_sub-result
overflow_sub-result g c =
    let shape = c.args.shape in
    let price = g.C.Costs.price c.args.costs.now in
    let sweep = c.args.sweep in
    let far = toward sweep.at sweep.span.end in
    let arrive =
    c.step_along-arrive.ensures.cost ∙
    ap (λ (line : Line). step_cost shape price (place_on shape line sweep.at) (place_on shape line far)) c.arriving.ensures in
    (step-to-come shape price sweep c.step_along-arrive.result c.requires.sweep c.requires.more arrive).0

pub returns-clause-sweep : goal.returns-clause-sweep
returns-clause-sweep g c =
    let shape = c.args.shape in
    let price = g.C.Costs.price c.args.costs.now in
    let sweep = c.args.sweep in
    let far = toward sweep.at sweep.span.end in
    let leave =
    c.step_along-leave.ensures.cost ∙
    ap (λ (line : Line). step_cost shape price (place_on shape line sweep.at) (place_on shape line far)) c.leaving.ensures in
    let arrive =
    c.step_along-arrive.ensures.cost ∙
    ap (λ (line : Line). step_cost shape price (place_on shape line sweep.at) (place_on shape line far)) c.arriving.ensures in
    at-next shape price sweep c.one_toward.result c.step_along-leave.result c.step_along-arrive.result c.requires.sweep c.requires.more
    c.one_toward.ensures leave arrive c.step_along-leave.ensures.most
