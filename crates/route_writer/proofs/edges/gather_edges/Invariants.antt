use Rattle.std.proofs.Common.{◌≡◌}
use Rattle.route_writer.proofs.TreeLemmas.{edges_before}
use Rattle.route_writer.proofs.edges.gather_edges.Given as goal

abbrev pub invariant-loop-node : goal.invariant-loop-node
invariant-loop-node l = l.edges.items ≡ edges_before l.tree l.node
