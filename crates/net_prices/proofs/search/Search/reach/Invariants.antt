use Rattle.std.proofs.Common.{◌≡◌, length}
use Rattle.net_prices.proofs.search.Search.reach.Given as goal

abbrev pub invariant-loop : goal.invariant-loop
invariant-loop l = length l.labels.table ≡ length l.fn.labels.table
