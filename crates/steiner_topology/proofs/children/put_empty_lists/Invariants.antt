use Rattle.std.proofs.Common.{◌≡◌, [], replicate}
use Rattle.steiner_topology.specs.Children.{lists_of}
use Rattle.steiner_topology.proofs.children.put_empty_lists.Given as goal

abbrev pub invariant-loop : goal.invariant-loop
invariant-loop l = lists_of l.lists.items ≡ replicate l.counter []
