use Rattle.std.proofs.Common.{◌≡◌, filter}
use Rattle.std.specs.List.{range_with_len}
use Rattle.run_histories.specs.GivenRoutes.{is_open}
use Rattle.run_histories.proofs.nets.open_nets.Given as goal

abbrev pub invariant-loop-net : goal.invariant-loop-net
invariant-loop-net l = l.nets.items ≡ filter (is_open l.design l.given) (range_with_len 0 l.net)
