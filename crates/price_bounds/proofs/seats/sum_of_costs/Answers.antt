use Rattle.std.proofs.Common.{length, refl, arith}
use Rattle.net_prices.specs.PriceTables.{allowed_by, prices_by}
use Rattle.price_bounds.proofs.CostLemmas.{costs-to-last}
use Rattle.price_bounds.proofs.SeatLemmas.{costs-later, seat-added}
use Rattle.price_bounds.proofs.seats.sum_of_costs.Goals as goal
use Rattle.price_bounds.proofs.seats.sum_of_costs.Goals.{then-counted-seat, else-counted-seat}

pub loop-seat-preserved : goal.loop-seat-preserved
loop-seat-preserved c d rates weights priced = elim c.if-counted-seat.branch [
  | then-counted-seat w ↦
      let before = c.loop-seat.invariant d rates weights priced in
      rw (w.counted-is, w.cost-is)
      (seat-added d rates weights c.args.seats.now priced c.loop-seat.seat-index c.loop-seat.counted c.loop-seat.cost c.in-Ok.more
      w.saturating_add-cost.result c.seat-item.result c.loop-seat-test.true c.seat-item.is c.in-Ok.is (omega (arith, w.saturating_add-cost.ensures))
      (omega (arith, w.if-counted-seat.true)) before.1)
  | else-counted-seat w ↦ rw (w.counted-is, w.cost-is) (c.loop-seat.invariant d rates weights priced)
]

pub returns : goal.returns
returns c d rates weights priced =
    let all = c.loop-seat.invariant d rates weights priced in
    costs-to-last d (prices_by rates weights) (allowed_by d rates.usable_only) (length d.nets) (length d.nets) c.loop-seat.cost refl
    (costs-later d (prices_by rates weights) (allowed_by d rates.usable_only) c.loop-seat.counted (length d.nets) c.loop-seat.cost all.0 all.1)
