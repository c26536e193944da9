use Rattle.std.proofs.Common.{◌≡◌, filter}
use Rattle.std.specs.List.{range_with_len}
use Rattle.gr_base.specs.Designs.{is_routed}
use Rattle.run_histories.proofs.nets.routed_nets.Given as goal

abbrev pub invariant-loop-net : goal.invariant-loop-net
invariant-loop-net l = l.nets.items ≡ filter (is_routed l.design) (range_with_len 0 l.net)
