use Rattle.std.proofs.Common.{◌≡◌, take, length}
use Rattle.net_prices.specs.LabelTables.{IsUnlabelled}
use Rattle.net_prices.proofs.labels.unlabel.Given as goal

abbrev pub invariant-loop-cell : goal.invariant-loop-cell
invariant-loop-cell l = record {
  long : length l.table.items ≡ length l.fn.table.items;
  taken : IsUnlabelled l.fn.table.items l.table.items (take l.cell-index l.cells);
}
