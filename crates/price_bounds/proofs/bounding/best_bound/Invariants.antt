use Rattle.std.proofs.Common.{◌≡◌, ◌*◌, length}
use Rattle.gr_base.specs.Grid.{cells_of}
use Rattle.price_bounds.specs.Figures.{IsFigure}
use Rattle.price_bounds.specs.Seats.{AreFor}
use Rattle.price_bounds.proofs.bounding.best_bound.Given as goal

abbrev pub invariant-loop : goal.invariant-loop
invariant-loop g l = record {
  seats : AreFor l.design l.seats.items;
  long : length l.weights.items ≡ 2 * cells_of l.capacity.shape;
  best : IsFigure l.design l.asked.via_cost l.figure l.best;
}
