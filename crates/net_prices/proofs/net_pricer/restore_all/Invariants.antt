use Rattle.std.proofs.Common.{◌≡◌, ℕ, ◌<◌, ◌≤◌, length, slice_index}
use Rattle.net_prices.proofs.net_pricer.restore_all.Given as goal

abbrev pub invariant-loop-arc : goal.invariant-loop-arc
invariant-loop-arc l = record {
  long : length l.left.items ≡ length l.table;
  low : (n : ℕ) → n < l.arc → slice_index l.left.items n ≤ slice_index l.table n;
}
