use Rattle.std.proofs.Common.{length}
use Rattle.steiner_topology.specs.Children.{lists_of}
use Rattle.steiner_topology.proofs.ChildLemmas.{Hold, child_below}
use Rattle.steiner_topology.proofs.children.put_child_lists.Given as goal

abbrev pub invariant-loop-child : goal.invariant-loop-child
invariant-loop-child l = Hold (length l.points) (child_below l.points l.child) (lists_of l.children.items)
