use Rattle.std.specs.Prelude.{◌≡◌}
use Rattle.grid_demand.specs.Tables.{capacity_of}
use Rattle.book_state.specs.Books.{victims, IsLegal}
use Rattle.run_histories.specs.Standing.{Stands}
use Rattle.batch_rounds.specs.Rounds.{batching_of, HasRun}
use Rattle.batch_rounds.proofs.run.run_rounds.Given as goal

-- so many rounds were run behind round 0; these are the victims
abbrev pub invariant-loop-done : goal.invariant-loop-done
invariant-loop-done g l = record {
  capacity : l.book.capacity ≡ capacity_of l.asked.design.now;
  legal : IsLegal l.book.capacity l.book.history;
  victims : l.victims ≡ victims (capacity_of l.asked.design.now) l.book.history;
  stands : Stands l.asked.design.now l.book.history;
  run : HasRun (batching_of l.asked) l.done l.book.history;
}
