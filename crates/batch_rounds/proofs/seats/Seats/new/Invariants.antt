use Rattle.std.specs.Prelude.{◌≡◌, length}
use Rattle.batch_rounds.proofs.seats.Seats.new.Given as goal

abbrev pub invariant-loop : goal.invariant-loop
invariant-loop l = length l.each.items ≡ l.counter
