use Rattle.std.proofs.Common.{◌≡◌, ℕ, List, ap, ◌∙◌}
use Rattle.pattern_route.specs.declared.line.Span.{Span}
use Rattle.pattern_route.specs.Walks.{walk_cost, least_of, first_least}
use Rattle.pattern_route.specs.Lines.{walk_by, walk_at, walks_after}
use Rattle.pattern_route.proofs.ChosenLemmas.{by-lines}
use Rattle.pattern_route.proofs.crossing.least_crossing.Goals as goal

pub returns-clause-least : goal.returns-clause-least
returns-clause-least g c =
    let shape = c.args.shape in
    let cost : List ℕ → ℕ = walk_cost shape (g.C.Costs.price c.args.costs.now) in
    let sweep = c.start-sweep.result in
    let here : walk_at shape c.crossing_at.result ≡ walk_by shape sweep.span sweep.at =
    ap (λ (s : Span). walk_by shape s c.crossing_at.result.at) c.crossing_at.ensures.span ∙ ap (λ at. walk_by shape sweep.span at) c.crossing_at.ensures.at in
    let P : List (List ℕ) → Type 0 = λ walks. walk_at shape c.least_after.result ≡ first_least cost walks in
    by-lines shape c.args.span sweep P c.start-sweep.ensures.span c.start-sweep.ensures.at
    (c.least_after.ensures.least ∙ ap (λ w. least_of cost w (walks_after shape sweep)) here)
