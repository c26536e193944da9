use Rattle.gr_base.specs.Grid.{edge_at}
use Rattle.gr_base.specs.declared.grid.Way.TheVariants.{East, North, Up}
use Rattle.net_prices.proofs.ArcLemmas.{lower-more}
use Rattle.net_prices.proofs.PricedLemmas.{priced-lower}
use Rattle.net_prices.proofs.price_table.price_cell.Goals as goal

pub returns-clause-priced : goal.returns-clause-priced
returns-clause-priced c East =
    priced-lower c.args.pricing.now c.price_way.new.table.items c.price_way-3.new.table.items (edge_at c.args.low East)
    (lower-more c.price_way.new.table.items c.price_way-2.new.table.items c.price_way-3.new.table.items c.price_way-2.ensures.lower c.price_way-3.ensures.lower)
    c.price_way.ensures.priced
returns-clause-priced c North =
    priced-lower c.args.pricing.now c.price_way-2.new.table.items c.price_way-3.new.table.items (edge_at c.args.low North)
    c.price_way-3.ensures.lower c.price_way-2.ensures.priced
returns-clause-priced c Up = c.price_way-3.ensures.priced
