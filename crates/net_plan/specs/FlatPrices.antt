-- What edges cost where the layers of a grid are laid on one another.
use Rattle.std.specs.Prelude.{ℕ, Bool, Option, Some, None, min, map, fold}
use Rattle.std.specs.List.{range_with_len, list_any}
use Rattle.gr_base.specs.Grid.{on_layer}
use Rattle.cost_rules.specs.declared.site.Formula.{Formula}
use Rattle.grid_demand.specs.LoadSums.{LoadsView}
use Rattle.grid_demand.specs.Tables.{CapacityView}
use Rattle.net_plan.specs.Prices.{HasPrices, price_of, ways_of}
use Rattle.gr_base.specs.declared.grid.Edge.{Edge}
use Rattle.gr_base.specs.declared.grid.Shape.{Shape}
use Rattle.gr_base.specs.declared.grid.Way.{Way}

-- the lesser of two prices, if there are two
abbrev pub lesser : Option ℕ → Option ℕ → Option ℕ
lesser None q = q
lesser (Some p) None = Some p
lesser (Some p) (Some q) = Some (min p q)

-- the flat price of an edge: the least price of the edges over it on the grid's layers
abbrev pub flat_price : Shape → (Edge → Option ℕ) → Edge → Option ℕ
flat_price g price e = fold lesser None (map (λ layer. price (on_layer g layer e)) (range_with_len 0 g.layers))

-- some layer goes this way
abbrev pub some_goes : Shape → (ℕ → Way → Bool) → Way → Bool
some_goes g ways way = list_any (λ layer. ways layer way) (range_with_len 0 g.layers)

-- what a flat edge costs a net, and the ways that flat edges go
abbrev pub flat_price_of : CapacityView → LoadsView → Formula → ℕ → Edge → Option ℕ
flat_price_of c l formula net = flat_price c.shape (price_of c l formula net)

abbrev pub flat_ways_of : CapacityView → ℕ → Way → Bool
flat_ways_of c layer = some_goes c.shape (ways_of c)

-- that what flat edges cost a net are prices
abbrev pub HasFlatPrices : Shape → CapacityView → LoadsView → Formula → ℕ → Type 0
HasFlatPrices flat c l formula net = HasPrices flat (flat_ways_of c) (flat_price_of c l formula net)
