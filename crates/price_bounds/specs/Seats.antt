-- Seats, at which the nets of a design are priced side by side.
use Rattle.std.specs.Prelude.{◌≡◌, ℕ, ◌<◌, ◌≤◌, List, length, All, IfOk, slice_index_or}
use Rattle.gr_base.specs.Designs.{DesignView}
use Rattle.net_prices.specs.PriceTables.{allowed_by, prices_by}
use Rattle.net_prices.specs.declared.rates.Rates.{Rates}
use Rattle.price_bounds.specs.Costs.{IsCostOf}
use Rattle.price_bounds.specs.declared.seats.Seat.{Seat}

-- a seat for some of a design's nets
pub record IsFor (d : DesignView) (seat : Seat) : Type 0 where
  pub shape : seat.pricer.shape ≡ d.frame.shape
  pub order : seat.first ≤ seat.last
  pub inside : seat.last ≤ length d.nets

abbrev pub AreFor : DesignView → List Seat → Type 0
AreFor d seats = All (λ seat. IsFor d seat) seats

-- it has priced them
pub record IsPriced (d : DesignView) (rates : Rates) (weights : List ℕ) (seat : Seat) : Type 0 where
  pub is_for : IsFor d seat
  pub cost : IfOk seat.cost (λ cost.
      IsCostOf d (prices_by rates weights) (allowed_by d rates.usable_only) seat.first seat.last cost)

-- each has
abbrev pub ArePriced : DesignView → Rates → (weights : List ℕ) → List Seat → Type 0
ArePriced d rates weights seats =
    (at : ℕ) → (seat : Seat) → at < length seats → IsPriced d rates weights (slice_index_or seats at seat)
