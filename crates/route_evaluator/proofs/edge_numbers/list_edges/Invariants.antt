use Rattle.std.proofs.Common.{◌≡◌, map, take}
use Rattle.route_evaluator.specs.EdgeNumbers.{edge_numbered}
use Rattle.route_evaluator.proofs.edge_numbers.list_edges.Given as goal

abbrev pub invariant-loop-number : goal.invariant-loop-number
invariant-loop-number l = l.edges.items ≡ map edge_numbered (take l.number-index l.numbers)
