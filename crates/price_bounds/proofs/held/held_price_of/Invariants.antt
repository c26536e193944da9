use Rattle.std.proofs.Common.{◌≡◌, ◌*◌, ◌≤◌, ◌^◌, sum_by}
use Rattle.std.specs.List.{range_with_len}
use Rattle.gr_base.specs.Designs.{DesignView}
use Rattle.grid_demand.specs.Tables.{capacity_of}
use Rattle.net_prices.specs.PriceTables.{allowed_by, prices_by}
use Rattle.price_bounds.specs.Costs.{held_numbered}
use Rattle.price_bounds.proofs.held.held_price_of.Given as goal

abbrev pub invariant-loop-number : goal.invariant-loop-number
invariant-loop-number l = record {
  held : (d : DesignView) → l.capacity ≡ capacity_of d →
      l.held ≡ sum_by (held_numbered d (prices_by l.rates l.weights) (allowed_by d l.rates.usable_only)) (range_with_len 0 l.number);
  fits : l.held ≤ 2 ^ 63 * l.number;
}
