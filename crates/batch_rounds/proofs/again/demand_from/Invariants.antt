use Rattle.std.specs.Prelude.{◌≡◌, ◌*◌, ◌^◌, ◌≤◌, take}
use Rattle.std.specs.List.{sum_by}
use Rattle.grid_demand.specs.LoadSums.{demand_at}
use Rattle.batch_rounds.specs.SecondTries.{demand_from_cell}
use Rattle.batch_rounds.proofs.again.demand_from.Given as goal

-- the sum so far, of so many nodes
abbrev pub invariant-loop-node : goal.invariant-loop-node
invariant-loop-node l = record {
  sum : l.sum ≡ sum_by (λ node. demand_from_cell l.tree.shape (demand_at l.loads) node.cell) (take l.node l.tree.nodes);
  most : l.sum ≤ l.node * 2 ^ 65;
}
