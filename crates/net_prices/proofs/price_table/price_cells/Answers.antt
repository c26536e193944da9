use Rattle.std.proofs.Common.{◌∙◌}
use Rattle.net_prices.proofs.PricedLemmas.{priced-next}
use Rattle.net_prices.proofs.price_table.price_cells.Goals as goal

pub loop-low-preserved : goal.loop-low-preserved
loop-low-preserved c = record {
  long = c.price_cell.ensures.lower.long ∙ c.loop-low.invariant.long;
  priced = priced-next c.args.pricing.now c.loop-low.table.items c.price_cell.new.table.items c.loop-low.low
      c.price_cell.ensures.lower c.loop-low.invariant.priced c.price_cell.ensures.priced;
}
