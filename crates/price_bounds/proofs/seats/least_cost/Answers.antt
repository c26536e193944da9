use Rattle.std.proofs.Common.{List, sym, subst}
use Rattle.price_bounds.specs.Seats.{ArePriced}
use Rattle.price_bounds.specs.declared.seats.Seat.{Seat}
use Rattle.price_bounds.proofs.SeatLemmas.{all-seats-cost}
use Rattle.price_bounds.proofs.seats.least_cost.Goals as goal

pub returns-clause-bound : goal.returns-clause-bound
returns-clause-bound g c =
    let priced : ArePriced c.args.design.now c.args.rates c.args.weights.now c.deref.result.now =
    subst (λ (xs : List Seat). ArePriced c.args.design.now c.args.rates c.args.weights.now xs) (sym c.deref.ensures.value)
    c.price_each.ensures.priced in
    all-seats-cost c.args.design.now c.args.rates c.args.weights.now c.deref.result.now priced c.sum_of_costs.result c.sum_of_costs.ensures
