use Rattle.std.proofs.Common.{◌≡◌, length}
use Rattle.net_prices.proofs.price_table.empty_table.Given as goal

abbrev pub invariant-loop-arc : goal.invariant-loop-arc
invariant-loop-arc l = length l.table.items ≡ length l.fn.table.items
