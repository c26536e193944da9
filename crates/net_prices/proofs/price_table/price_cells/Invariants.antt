use Rattle.std.proofs.Common.{◌<◌}
use Rattle.gr_base.specs.declared.grid.Edge.{Edge}
use Rattle.net_prices.specs.Pricings.{HasAllArcs, IsPricedBy}
use Rattle.net_prices.proofs.price_table.price_cells.Given as goal

abbrev pub invariant-loop-low : goal.invariant-loop-low
invariant-loop-low l = record {
  long : HasAllArcs l.pricing l.table.items;
  priced : (e : Edge) → e.low < l.low → IsPricedBy l.pricing l.table.items e;
}
