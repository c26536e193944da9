-- What rounds in batches give back.
use Rattle.std.specs.Prelude.{◌≡◌, ◌≤◌, Some, length, take}
use Rattle.grid_demand.specs.Tables.{capacity_of}
use Rattle.book_state.specs.Books.{IsLegal}
use Rattle.book_state.specs.Entries.{AtEach}
use Rattle.book_state.specs.Marks.{least_mark}
use Rattle.run_histories.specs.Standing.{Stands}
use Rattle.batch_rounds.specs.BatchedHistories.{Batching, IsNumbered, IsBatched}
use Rattle.batch_rounds.specs.declared.rounds.Batched.{Batched}

-- what rounds in batches give: each entry of the history has the reply that the rules give, the history is a batched
-- one, each entry has its caller's number, and at the first mark of least overflow exactly the routed nets are booked,
-- each by a tree that routes it
pub record IsMade (t : Batching) (b : Batched) : Type 0 where
  pub capacity : b.state.capacity ≡ capacity_of t.design
  pub legal : IsLegal b.state.capacity b.state.history
  pub batched : IsBatched t b.state.history
  pub numbers : AtEach (λ before e. IsNumbered e) b.state.history
  pub least : least_mark b.state.history ≡ Some b.chosen
  pub within : b.chosen ≤ length b.state.history
  pub stands : Stands t.design (take b.chosen b.state.history)
