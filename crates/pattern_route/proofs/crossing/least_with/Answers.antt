use Rattle.std.proofs.Common.{◌≡◌, ℕ, List, ap, sym, ◌∙◌}
use Rattle.pattern_route.specs.Walks.{walk_cost, least_of}
use Rattle.pattern_route.specs.Lines.{walk_at, walks_after}
use Rattle.pattern_route.proofs.ChosenLemmas.{by-lines}
use Rattle.pattern_route.proofs.LeastLemmas.{charges, stays-all}
use Rattle.pattern_route.proofs.crossing.least_with.Goals as goal

pub returns-then-found-steps-clause-least : goal.returns-then-found-steps-clause-least
returns-then-found-steps-clause-least g c =
    let shape = c.args.shape in
    let price = g.C.Costs.price c.args.costs.now in
    let least =
    charges shape (g.C.Costs.grid c.args.costs.now) (g.C.Costs.ways c.args.costs.now) price c.requires.grid c.requires.flat (g.met.C.Costs.prices c.args.costs.now) in
    sym (stays-all shape price c.args.span c.args.found c.steps.result least c.requires.fits c.requires.found c.steps.ensures c.if-found-steps.true)

pub returns-clause-least : goal.returns-clause-least
returns-clause-least g c =
    let shape = c.args.shape in
    let cost : List ℕ → ℕ = walk_cost shape (g.C.Costs.price c.args.costs.now) in
    let sweep = c.start-sweep.result in
    let P : List (List ℕ) → Type 0 = λ walks. walk_at shape c.least_after.result ≡ least_of cost (walk_at shape c.args.found) walks in
    by-lines shape c.args.span sweep P c.start-sweep.ensures.span c.start-sweep.ensures.at
    (c.least_after.ensures.least ∙ ap (λ w. least_of cost w (walks_after shape sweep)) c.cheaper_at.ensures.walk)
