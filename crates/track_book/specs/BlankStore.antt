-- What the fields of a book that isn't begun keep.
use Rattle.std.specs.Prelude.{◌≡◌, ◌≤◌, []}
use Rattle.std.specs.Arc.{arc_value}
use Rattle.book_front.specs.Seats.{word_of, AreFresh}
use Rattle.book_state.specs.Books.{IsLegal}
use Rattle.track_book.specs.Passes.{BlankView}
use Rattle.track_book.specs.declared.blank.Blank.TheInside.{Inside}

abbrev pub seen : Inside → BlankView
seen b = record { word = word_of b.front; capacity = arc_value b.capacity; passes = b.passes }

-- the seats are those of the word, none of which has seen an entry, and the stored book has none
pub record Keeps (b : Inside) : Type 0 where
  pub seats_are : AreFresh (word_of b.front) b.passes b.keeper b.seats.items
  pub few : b.passes ≤ 64
  pub capacity_is : b.state.capacity ≡ arc_value b.capacity
  pub history_is : b.state.history ≡ []
  pub legal : IsLegal b.state.capacity b.state.history
