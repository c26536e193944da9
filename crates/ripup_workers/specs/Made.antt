-- What rounds by several workers give back.
use Rattle.std.specs.Prelude.{◌≡◌, ◌≤◌, Some, length, take}
use Rattle.grid_demand.specs.Tables.{capacity_of}
use Rattle.book_state.specs.Books.{IsLegal}
use Rattle.book_state.specs.Marks.{least_mark}
use Rattle.run_histories.specs.Hands.{ArePartedTo}
use Rattle.run_histories.specs.RunHistories.{Setting, IsRunHistory}
use Rattle.run_histories.specs.Standing.{Stands}
use Rattle.ripup_workers.specs.declared.rounds.Rounds.{Rounds}

-- what rounds give: each entry of the history has the reply that the rules give, the history is a run history, the
-- callers' logs part it, and at the first mark of least overflow exactly the routed nets are booked, each by a tree
-- that routes it
pub record IsMade (t : Setting) (r : Rounds) : Type 0 where
  pub capacity : r.book.state.capacity ≡ capacity_of t.design
  pub legal : IsLegal r.book.state.capacity r.book.state.history
  pub run : IsRunHistory t r.book.state.history
  pub parted : ArePartedTo t.workers r.book.state.history r.hands.items
  pub least : least_mark r.book.state.history ≡ Some r.chosen
  pub within : r.chosen ≤ length r.book.state.history
  pub stands : Stands t.design (take r.chosen r.book.state.history)
