use Rattle.std.proofs.Common.{◌≡◌, map}
use Rattle.std.specs.List.{range_with_len}
use Rattle.elmore_delay.specs.FromLeaves.{sinks_seen}
use Rattle.elmore_delay.specs.Loadings.{rc_of}
use Rattle.elmore_delay.proofs.times.at_sinks.Given as goal

abbrev pub invariant-loop-node : goal.invariant-loop-node
invariant-loop-node l = l.seen.items ≡ map (sinks_seen (rc_of l.loading)) (range_with_len 0 l.node)
