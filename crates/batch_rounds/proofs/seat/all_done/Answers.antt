use Rattle.std.proofs.Common.{◌≡◌, All, Ok, subst, sym, ap, ◌∙◌}
use Rattle.std.proofs.lemmas.List.{take_all}
use Rattle.std.proofs.lemmas.List.Elements.{All-more}
use Rattle.batch_rounds.specs.declared.seat.Seat.{Seat}
use Rattle.batch_rounds.proofs.seat.all_done.Goals as goal

pub loop-seat-preserved : goal.loop-seat-preserved
loop-seat-preserved c =
    All-more (λ (seat : Seat). seat.done ≡ Ok tt) c.args.seats.now c.loop-seat.seat-index c.seat-item.result c.loop-seat-test.true c.loop-seat.invariant
    (sym (ap (λ (seat : Seat). seat.done) c.seat-item.is) ∙ c.in_ok-seat.was)

pub returns : goal.returns
returns c = subst (All (λ (seat : Seat). seat.done ≡ Ok tt)) (take_all c.loop-seat.seat-index c.args.seats.now c.loop-seat-test.false) c.loop-seat.invariant
