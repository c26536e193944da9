-- Tables of what arcs cost a net.
use Rattle.std.specs.Prelude.{◌≡◌, ℕ, ◌*◌, ◌<◌, ◌≤◌, Bool, true, List, length, slice_index, if◌then◌else◌, IsTrue}
use Rattle.gr_base.specs.Capacities.{usable}
use Rattle.gr_base.specs.Designs.{DesignView}
use Rattle.gr_base.specs.EdgeSets.{Edges}
use Rattle.gr_base.specs.Grid.{cells_of, has_edge}
use Rattle.gr_base.specs.Sums.{wire_number}
use Rattle.gr_base.specs.declared.grid.Edge.{Edge}
use Rattle.net_prices.specs.Arcs.{arcs_in, nothing}
use Rattle.net_prices.specs.Pricers.{PricerView}
use Rattle.net_prices.specs.declared.rates.Rates.{Rates}
use Rattle.price_laws.specs.Prices.{Prices, price}

-- the prices by a weight on each wire edge, by its number
abbrev pub prices_by : Rates → List ℕ → Prices
prices_by rates weights = record {
  scale = rates.scale;
  via_cost = rates.via_cost;
  weight = λ e. slice_index weights (wire_number e);
}

-- the edges that may be used: the usable ones, or all
abbrev pub allowed_by : DesignView → Bool → Edges
allowed_by d usable_only e = if usable_only then usable d e else true

-- what an edge costs at most by a table, in either direction
abbrev pub IsPriced : DesignView → Rates → (weights : List ℕ) → (net : ℕ) → PricerView → Edge → Type 0
IsPriced d rates weights net p e =
    (up : Bool) → IsTrue (allowed_by d rates.usable_only e) →
    (arcs_in p.flat d.frame.shape p.small p.table e up ≤ price d (prices_by rates weights) net e) ×
    (arcs_in p.flat d.frame.shape p.small p.table e up < nothing)

-- a table has for both arcs of each edge that may be used at most its price
pub record ArePrices (d : DesignView) (rates : Rates) (weights : List ℕ) (net : ℕ) (p : PricerView) : Type 0 where
  pub long : length p.table ≡ 6 * cells_of p.small
  pub each : (e : Edge) → IsTrue (has_edge d.frame.shape e) → IsPriced d rates weights net p e
