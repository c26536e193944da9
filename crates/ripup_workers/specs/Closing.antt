-- The begin and the end of the book of rounds.
use Rattle.std.specs.Prelude.{◌≡◌, ℕ, ◌+◌, List, length, Some, slice_get}
use Rattle.grid_demand.specs.Tables.{capacity_of}
use Rattle.book_state.specs.Views.{BookView}
use Rattle.run_histories.specs.Rounds.{marker}
use Rattle.run_histories.specs.RunHistories.{Setting, IsRunHistory}
use Rattle.track_book.specs.Passes.{PassView, IsNew}

-- the coordinator and the workers have passes that have seen nothing
pub record AreNew (t : Setting) (coordinator : PassView) (workers : List PassView) : Type 0 where
  pub count : length workers ≡ t.workers
  pub first : IsNew marker coordinator
  pub each : (at : ℕ) (p : PassView) → slice_get workers at ≡ Some p → IsNew (at + 1) p

-- the book is one of the design, and its history a run history
pub record IsMadeBook (t : Setting) (book : BookView) : Type 0 where
  pub capacity : book.capacity ≡ capacity_of t.design
  pub run : IsRunHistory t book.history
