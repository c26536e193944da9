use Rattle.std.proofs.Common.{◌≡◌, ◌≤◌, count_by, is_some}
use Rattle.std.specs.List.{range_with_len}
use Rattle.gr_base.specs.Trees.{tree_at}
use Rattle.router_top.proofs.beginning.kept_nets.Given as goal

abbrev pub invariant-loop-net : goal.invariant-loop-net
invariant-loop-net l = record {
  count : l.kept ≡ count_by (λ net. is_some (tree_at l.given net)) (range_with_len 0 l.net);
  few : l.kept ≤ l.net;
}
