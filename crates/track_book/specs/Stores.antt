-- What the fields of passes and of the locked book keep.
use Rattle.std.specs.Prelude.{◌≡◌, ℕ, ◌≤◌, List, length, take, Option}
use Rattle.atomic_table.specs.Seated.{TableId}
use Rattle.book_front.specs.declared.seat.PassSeat.{PassSeat}
use Rattle.book_state.specs.Books.{IsLegal}
use Rattle.book_state.specs.Entries.{calls_of}
use Rattle.book_state.specs.Views.{BookView}
use Rattle.book_state.specs.declared.entry.Entry.{Entry}
use Rattle.grid_demand.specs.Tables.{CapacityView}
use Rattle.track_book.specs.Passes.{PassView}
use Rattle.track_book.specs.SeatOptions.{view_in, HasKeeper, HasPass}

-- what a pass has seen: the first entries of what its seat has
abbrev pub seen_of : ℕ → Option PassSeat → List Entry
seen_of known seat = take known (view_in seat).seen

abbrev pub pass_of : ℕ → ℕ → Option PassSeat → List Entry → PassView
pass_of number known seat past =
    record { number = number; seen = seen_of known seat; mine = (view_in seat).mine; held = length past }

-- a pass's seat is that of its number at the book's word. What it has seen is legal, has all of the pass's own entries,
-- and begins with what the pass holds itself
pub record KeepsPass (word : TableId) (c : CapacityView) (number known : ℕ) (seat : Option PassSeat)
    (past : List Entry) : Type 0 where
  pub pass : HasPass word seat
  pub number_is : (view_in seat).number ≡ number
  pub known_is : known ≤ length (view_in seat).seen
  pub legal : IsLegal c (seen_of known seat)
  pub calls : (view_in seat).mine ≡ calls_of number (seen_of known seat)
  pub past_is : take (length past) (seen_of known seat) ≡ past

-- the keeper's seat is that of the book's word, and has seen the history of the stored book, which is legal
pub record KeepsBook (word : TableId) (c : CapacityView) (passes : ℕ) (keeper : Option PassSeat)
    (state : BookView) : Type 0 where
  pub keeper_is : HasKeeper word keeper
  pub seen : (view_in keeper).seen ≡ state.history
  pub made : (view_in keeper).made ≡ passes
  pub capacity : state.capacity ≡ c
  pub legal : IsLegal c state.history
