use Rattle.std.proofs.Common.{◌≡◌, length, slice_index}
use Rattle.gr_base.specs.Grid.{cells_of}
use Rattle.net_prices.specs.Arcs.{AreLower}
use Rattle.net_prices.specs.Payments.{IsRaised}
use Rattle.net_prices.proofs.net_pricer.pay_net.Given as goal

abbrev pub invariant-loop : goal.invariant-loop
invariant-loop l = record {
  labels : length l.labels.table ≡ cells_of l.small;
  lower : AreLower l.fn.left.items l.left.items;
  raised : IsRaised l.small (slice_index l.pins 0) l.pins l.fn.left.items l.left.items l.paid;
}
