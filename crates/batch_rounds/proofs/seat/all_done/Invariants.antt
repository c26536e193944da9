use Rattle.std.specs.Prelude.{◌≡◌, All, Ok, take}
use Rattle.batch_rounds.proofs.seat.all_done.Given as goal

abbrev pub invariant-loop-seat : goal.invariant-loop-seat
invariant-loop-seat l = All (λ seat. seat.done ≡ Ok tt) (take l.seat-index l.seats)
