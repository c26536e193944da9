use Rattle.std.proofs.Common.{◌≡◌, ◌-◌}
use Rattle.gr_base.specs.Grid.{cells_of}
use Rattle.route_evaluator.specs.EdgeNumbers.{edges_numbered}
use Rattle.route_evaluator.specs.Floods.{IsFlood}
use Rattle.route_evaluator.proofs.flood.flood.Given as goal

abbrev pub invariant-loop-at : goal.invariant-loop-at
invariant-loop-at l = record {
  bound : l.reached.cells.bound ≡ cells_of l.shape;
  flood : IsFlood l.shape (edges_numbered l.edges.numbers) l.fn.first l.at l.reached.cells.numbers l.reached.parents.items;
}

abbrev pub decreases-loop-at : goal.decreases-loop-at
decreases-loop-at l = cells_of l.shape - l.at
