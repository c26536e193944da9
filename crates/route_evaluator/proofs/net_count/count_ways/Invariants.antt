use Rattle.std.proofs.Common.{◌≡◌, ◌+◌, ◌≤◌, count_by}
use Rattle.gr_base.specs.Grid.{is_wire}
use Rattle.grid_demand.proofs.TreeTimes.{edges_before}
use Rattle.route_evaluator.proofs.NetCountLemmas.{is_up}
use Rattle.route_evaluator.proofs.net_count.count_ways.Given as goal

abbrev pub invariant-loop-node : goal.invariant-loop-node
invariant-loop-node l = record {
  wires : l.wires ≡ count_by is_wire (edges_before l.tree l.node);
  vias : l.vias ≡ count_by is_up (edges_before l.tree l.node);
  few : l.wires + l.vias ≤ l.node;
}
