-- What tables have where they are filled by what prices of a net's arcs are made of.
use Rattle.std.specs.Prelude.{◌≡◌, ℕ, ◌*◌, List, length, IsTrue}
use Rattle.gr_base.specs.Designs.{DesignView}
use Rattle.gr_base.specs.Grid.{cells_of, has_edge}
use Rattle.gr_base.specs.declared.grid.Edge.{Edge}
use Rattle.grid_demand.specs.Tables.{capacity_of}
use Rattle.net_prices.specs.PriceTables.{ArePrices, IsPriced}
use Rattle.net_prices.specs.Pricers.{priced_by}
use Rattle.net_prices.specs.declared.pricing.Pricing.{Pricing}

-- a table has as many numbers as there are arcs
abbrev pub HasAllArcs : Pricing → (table : List ℕ) → Type 0
HasAllArcs p table = length table ≡ 6 * cells_of p.fold.small

-- a table has for both arcs of an edge at most its price, on each design with these capacities
abbrev pub IsPricedBy : Pricing → (table : List ℕ) → Edge → Type 0
IsPricedBy p table e =
    (d : DesignView) → p.capacity.now ≡ capacity_of d → IsTrue (has_edge d.frame.shape e) →
    IsPriced d p.rates p.weights.now p.net (priced_by p.fold table) e

-- and so for each edge
abbrev pub ArePricesBy : Pricing → (table : List ℕ) → Type 0
ArePricesBy p table =
    (d : DesignView) → p.capacity.now ≡ capacity_of d →
    ArePrices d p.rates p.weights.now p.net (priced_by p.fold table)
