use Rattle.std.specs.Prelude.{◌≡◌, ◌≤◌, length}
use Rattle.grid_demand.specs.Tables.{capacity_of}
use Rattle.batch_rounds.specs.Rounds.{batching_of}
use Rattle.batch_rounds.specs.SecondTries.{Grows}
use Rattle.batch_rounds.specs.Seats.{HavePlans}
use Rattle.batch_rounds.proofs.RoundSteps.{TurnsGoOn}
use Rattle.batch_rounds.proofs.batch.claim_all.Given as goal

-- the seats hold plans from this place on, and the turns to come go on from those so far
abbrev pub invariant-loop-place : goal.invariant-loop-place
invariant-loop-place g l = record {
  capacity : l.book.capacity ≡ capacity_of l.batch.asked.now.design.now;
  front : l.front ≡ length l.fn.book.history;
  longer : length l.fn.book.history ≤ length l.book.history;
  grows : Grows (capacity_of l.batch.asked.now.design.now) l.fn.book.history l.book.history;
  count : length l.seats ≡ length l.fn.seats;
  plans : HavePlans l.batch.asked.now.design.now l.batch.asked.now.rule.now.formula l.batch.round l.fn.book.history l.batch.nets.now l.place l.seats;
  turns : TurnsGoOn (batching_of l.batch.asked.now) l.batch.round l.fn.book.history l.fn.book.history l.batch.nets.now l.place l.book.history;
}
