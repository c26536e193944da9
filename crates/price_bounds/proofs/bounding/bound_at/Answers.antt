use Rattle.std.proofs.Common.{ℕ, ◌-◌, ap, ◌∙◌}
use Rattle.price_bounds.proofs.FigureLemmas.{figure-holds, weights-up-to}
use Rattle.price_bounds.proofs.bounding.bound_at.Goals as goal

pub returns-clause-bound : goal.returns-clause-bound
returns-clause-bound g c =
    let rates = c.rates_of-rates.result in
    let weights = c.args.weights.now in
    figure-holds c.args.design.now rates weights c.most_weight.result c.in_ok-cost.cost c.saturating_sub-surplus.result
    (weights-up-to rates weights c.most_weight.result c.most_weight.ensures) c.in_ok-cost.ensures.bound
    (c.saturating_sub-surplus.ensures ∙ ap (λ (n : ℕ). c.in_ok-cost.cost - n) (c.held_price_of-held.ensures c.args.design.now c.requires.capacity))
    c.args.figure c.args.asked.via_cost c.bound_by.result c.rates_of-rates.ensures.via_cost c.rates_of-rates.ensures.rates c.bound_by.ensures
