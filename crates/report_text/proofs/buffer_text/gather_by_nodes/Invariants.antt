use Rattle.std.proofs.Common.{◌≡◌}
use Rattle.report_text.specs.Placed.{buffered_before}
use Rattle.report_text.proofs.buffer_text.gather_by_nodes.Given as goal

abbrev pub invariant-loop-node : goal.invariant-loop-node
invariant-loop-node l = l.found.items ≡ buffered_before l.tree l.placement l.node
