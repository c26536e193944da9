use Rattle.std.specs.Prelude.{◌≡◌, ◌≤◌, length}
use Rattle.std.specs.Slice.Iter.{chunks_rest, chunks_size}
use Rattle.gr_base.specs.Designs.{AreRouted}
use Rattle.gr_base.specs.Limits.{most_nets}
use Rattle.grid_demand.specs.Tables.{capacity_of}
use Rattle.batch_rounds.specs.Rounds.{batching_of}
use Rattle.batch_rounds.proofs.RoundSteps.{BatchesGoOn}
use Rattle.batch_rounds.proofs.run.run_batches.Given as goal

-- the batches of the nets that are left go on from those so far
abbrev pub invariant-loop-nets : goal.invariant-loop-nets
invariant-loop-nets g l = record {
  next : (goal.iterator-loop-nets g).can_next l.nets-iterator;
  finite : (goal.iterator-loop-nets g).is_finite l.nets-iterator;
  size : chunks_size l.nets-iterator ≡ l.due.asked.now.batch;
  capacity : l.book.capacity ≡ capacity_of l.due.asked.now.design.now;
  nets : AreRouted l.due.asked.now.design.now (chunks_rest l.nets-iterator);
  few : length (chunks_rest l.nets-iterator) ≤ most_nets;
  batches : BatchesGoOn (batching_of l.due.asked.now) l.due.round l.fn.book.history l.due.nets.now (chunks_rest l.nets-iterator) l.book.history;
}
