-- For which net prices were set.
use Rattle.std.specs.Prelude.{ℕ, ◌<◌, List, length, Option, Some, None}
use Rattle.gr_base.specs.Designs.{DesignView}
use Rattle.net_prices.specs.PriceTables.{ArePrices}
use Rattle.net_prices.specs.Pricers.{PricerView}
use Rattle.net_prices.specs.declared.rates.Rates.{Rates}

-- the table has the prices of a net of the design, if there is one
abbrev pub IsPricedFor : DesignView → Rates → (weights : List ℕ) → Option ℕ → PricerView → Type 0
IsPricedFor d rates weights None p = Unit {0}
IsPricedFor d rates weights (Some net) p = (net < length d.nets) × ArePrices d rates weights net p
