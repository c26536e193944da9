use Rattle.std.proofs.Common.{◌≡◌, map}
use Rattle.std.specs.List.{range_with_len}
use Rattle.elmore_delay.specs.NodeLoads.{bare_node}
use Rattle.elmore_delay.proofs.node_load.without_sinks.Given as goal

abbrev pub invariant-loop-node : goal.invariant-loop-node
invariant-loop-node l = l.nodes.items ≡ map (bare_node l.library l.tree) (range_with_len 0 l.node)
