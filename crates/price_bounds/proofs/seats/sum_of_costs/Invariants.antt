use Rattle.std.proofs.Common.{ℕ, ◌≤◌, List, length}
use Rattle.gr_base.specs.Designs.{DesignView}
use Rattle.net_prices.specs.PriceTables.{allowed_by, prices_by}
use Rattle.net_prices.specs.declared.rates.Rates.{Rates}
use Rattle.price_bounds.specs.Costs.{IsCostOf}
use Rattle.price_bounds.specs.Seats.{ArePriced}
use Rattle.price_bounds.proofs.seats.sum_of_costs.Given as goal

-- the nets that are counted cost what was added up
abbrev pub invariant-loop-seat : goal.invariant-loop-seat
invariant-loop-seat l =
    (d : DesignView) (rates : Rates) (weights : List ℕ) → ArePriced d rates weights l.seats →
    (l.counted ≤ length d.nets) × IsCostOf d (prices_by rates weights) (allowed_by d rates.usable_only) 0 l.counted l.cost
