-- What edges cost a net over given loads.
use Rattle.std.specs.Prelude.{◌≡◌, ℕ, ◌^◌, ◌≤◌, ◌↔◌, Bool, Option, Some, None, slice_get, if◌then◌else◌, IsTrue, IsSome, IfSome, refl}
use Rattle.cost_rules.specs.Formulas.{cost_at, most_cost, via_price}
use Rattle.cost_rules.specs.Prices.{layer_of, ArePrices}
use Rattle.cost_rules.specs.declared.site.Formula.{Formula}
use Rattle.cost_rules.specs.declared.site.Site.{Site}
use Rattle.gr_base.specs.Capacities.{usable_along}
use Rattle.gr_base.specs.Grid.{has_edge, is_wire}
use Rattle.gr_base.specs.declared.grid.Edge.{Edge}
use Rattle.gr_base.specs.declared.grid.Shape.{Shape}
use Rattle.gr_base.specs.declared.grid.Way.{Way}
use Rattle.gr_base.specs.declared.grid.Way.TheVariants.{Up}
use Rattle.grid_demand.specs.LoadSums.{LoadsView, demand_at, marks_at}
use Rattle.grid_demand.specs.Tables.{CapacityView, capacity_at, usable_at, need_at}

-- a net at a wire edge: the edge's demand, capacity and marks, and what the net takes of it
abbrev pub site_of : CapacityView → LoadsView → ℕ → Edge → Site
site_of c l net e =
    record { demand = demand_at l e; capacity = capacity_at c e; need = need_at c net e; marks = marks_at l e }

-- what an edge costs a net: what each via edge costs, what the formula gives at its site for a wire edge, and nothing
-- where it isn't usable
abbrev pub price_of : CapacityView → LoadsView → Formula → ℕ → Edge → Option ℕ
price_of c l formula net e =
    if usable_at c e then Some (if is_wire e then cost_at formula (site_of c l net e) else via_price) else None

-- a layer goes a way where it states a capacity for it; each layer goes up
abbrev pub ways_of : CapacityView → ℕ → Way → Bool
ways_of c layer way = usable_along way (slice_get c.layers layer)

-- no wire edge has a demand above 2^62
abbrev pub HasBoundedDemand : LoadsView → Type 0
HasBoundedDemand l = (e : Edge) → IsTrue (has_edge l.shape e) → IsTrue (is_wire e) → demand_at l e ≤ 2 ^ 62

-- that these are prices, in the form in which a struct can keep it
pub record HasPrices (g : Shape) (ways : ℕ → Way → Bool) (price : Edge → Option ℕ) : Type 0 where
  pub up : (layer : ℕ) → IsTrue (ways layer Up)
  pub some : (e : Edge) → IsTrue (has_edge g e) → IsSome (price e) ↔ IsTrue (ways (layer_of g e) e.way)
  pub least : (e : Edge) (cost : ℕ) → IsTrue (has_edge g e) → price e ≡ Some cost → 1 ≤ cost
  pub most : (e : Edge) (cost : ℕ) → IsTrue (has_edge g e) → price e ≡ Some cost → cost ≤ most_cost

pub if_some : (o : Option ℕ) (P : ℕ → Type 0) → ((n : ℕ) → o ≡ Some n → P n) → IfSome o P
if_some None P each = tt
if_some (Some n) P each = each n refl

pub kept_prices : (g : Shape) (ways : ℕ → Way → Bool) (price : Edge → Option ℕ) → HasPrices g ways price →
    ArePrices g ways price
kept_prices g ways price kept = record {
  up = kept.up;
  some = kept.some;
  least = λ e edge. if_some (price e) (λ cost. 1 ≤ cost) (λ cost is. kept.least e cost edge is);
  most = λ e edge. if_some (price e) (λ cost. cost ≤ most_cost) (λ cost is. kept.most e cost edge is);
}

-- that what edges cost a net are prices
abbrev pub HasNetPrices : CapacityView → LoadsView → Formula → ℕ → Type 0
HasNetPrices c l formula net = HasPrices c.shape (ways_of c) (price_of c l formula net)
