-- The figures that prices prove.
use Rattle.std.specs.Prelude.{◌≡◌, ℕ, ◌+◌, ◌≤◌, max, true, false}
use Rattle.gr_base.specs.Designs.{DesignView}
use Rattle.gr_base.specs.EdgeSets.{Edges}
use Rattle.gr_base.specs.Sums.{total_over, wirelength}
use Rattle.net_prices.specs.declared.rates.Rates.{Rates}
use Rattle.price_bounds.specs.declared.figure.Figure.{Figure}
use Rattle.price_bounds.specs.declared.figure.Figure.TheVariants.{Overflow, Length, Both}
use Rattle.wall_laws.specs.Spans.{AreUsable}
use Rattle.wall_laws.specs.Walls.{JoinNets}

-- what no edge sets that join the routed nets are below, by the figure
abbrev pub IsFigure : DesignView → (via_cost : ℕ) → Figure → ℕ → Type 0
IsFigure d via_cost Overflow bound = (sets : ℕ → Edges) → JoinNets d sets → bound ≤ total_over d sets
IsFigure d via_cost Length bound =
    (sets : ℕ → Edges) → JoinNets d sets → AreUsable d sets → total_over d sets ≡ 0 → bound ≤ wirelength d via_cost sets
IsFigure d via_cost Both bound =
    (sets : ℕ → Edges) → JoinNets d sets → AreUsable d sets → bound ≤ wirelength d via_cost sets + total_over d sets

-- rates that prove a figure
abbrev pub IsRatesOf : Figure → Rates → Type 0
IsRatesOf Overflow rates = (rates.scale ≡ 0) × (rates.usable_only ≡ false)
IsRatesOf Length rates = (rates.scale ≡ 4096) × (rates.usable_only ≡ true)
IsRatesOf Both rates = (rates.scale ≡ 4096) × (rates.usable_only ≡ true)

-- what a surplus is divided by, where no weight is above a number
abbrev pub divisor_of : Figure → ℕ → ℕ
divisor_of Overflow most = most
divisor_of Length most = 4096
divisor_of Both most = max most 4096
