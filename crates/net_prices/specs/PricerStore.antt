-- What the fields of a pricer keep.
use Rattle.std.specs.Prelude.{◌≡◌, ◌*◌, length}
use Rattle.gr_base.specs.Grid.{cells_of}
use Rattle.net_prices.specs.Arcs.{AreLower}
use Rattle.net_prices.specs.Pricers.{PricerView, priced_by}
use Rattle.net_prices.specs.declared.net_pricer.NetPricer.TheInside.{Inside}

-- what the fields say
abbrev pub seen : Inside → PricerView
seen p = priced_by p.fold p.table.items

-- no arc has more left than it costs
pub record Keeps (p : Inside) : Type 0 where
  pub long : length p.table.items ≡ 6 * cells_of p.fold.small
  pub lower : AreLower p.table.items p.left.items
  pub labels : length p.labels.table ≡ cells_of p.fold.small
