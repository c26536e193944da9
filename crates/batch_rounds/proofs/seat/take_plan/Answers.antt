use Rattle.std.proofs.Common.{◌/◌, ◌%◌, length, get_or, set, Option, refl, ap}
use Rattle.std.proofs.lemmas.Nat.{mod_below}
use Rattle.std.proofs.lemmas.Option.{slice_get-get_or}
use Rattle.batch_rounds.specs.declared.seat.Planned.{Planned}
use Rattle.batch_rounds.proofs.SeatSteps.{taken-others}
use Rattle.batch_rounds.proofs.seat.take_plan.Goals as goal

pub returns-clause-others : goal.returns-clause-others
returns-clause-others c =
    let seats = c.args.seats.now in
    let at = c.args.place % length seats in
    let seat = c.index-seats-place.result in
    taken-others seats _ c.args.place (record {
      seat = get_or seats at seat;
      left = _;
      there = slice_get-get_or seats at seat (mod_below c.args.place (length seats) c.requires.some);
      after_is = refl;
      plans = ap (λ (plan : Option Planned). set (get_or seats at seat).plans.items (c.args.place / length seats) plan) c.take.ensures.after;
    })
