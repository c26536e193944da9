-- What the fields of a book keep.
use Rattle.std.specs.Prelude.{IfSome}
use Rattle.std.specs.Arc.{arc_value}
use Rattle.grid_demand.specs.Overfull.{AreOverfull}
use Rattle.book_state.specs.Books.{IsLegal}
use Rattle.book_state.specs.Extents.{AreParts}
use Rattle.book_state.specs.LeastSearch.{IsLeast}
use Rattle.book_state.specs.Replicas.{StandsFor}
use Rattle.book_state.specs.Views.{BookView}
use Rattle.book_state.specs.declared.book.BookState.TheInside.{Inside}

abbrev pub seen : Inside → BookView
seen b = record { capacity = arc_value b.capacity; history = b.history }

-- the history is legal, the replica stands for all of it, its first mark of least overflow is kept, and so is a box for
-- each net, in parts; a table of overfull edges, if there is one, is that of the loads
pub record Keeps (b : Inside) : Type 0 where
  pub legal : IsLegal (arc_value b.capacity) b.history
  pub stands : StandsFor (arc_value b.capacity) b.history b.replica
  pub least : IsLeast b.history b.least
  pub parts : AreParts (arc_value b.capacity) b.history b.parts.items
  pub over : IfSome b.over (AreOverfull (arc_value b.capacity) b.replica.loads)
