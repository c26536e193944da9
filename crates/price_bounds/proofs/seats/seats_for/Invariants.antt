use Rattle.std.proofs.Common.{◌≤◌, length}
use Rattle.price_bounds.specs.Seats.{AreFor}
use Rattle.price_bounds.proofs.seats.seats_for.Given as goal

abbrev pub invariant-loop : goal.invariant-loop
invariant-loop l = record {
  first : l.first ≤ length l.design.nets;
  seats : AreFor l.design l.seats.items;
}
