-- Seats that are in their place.
use Rattle.std.specs.Prelude.{◌≡◌, ℕ, List, [], ◌∷◌, ◌++◌, Option, Some, None, slice_get}
use Rattle.atomic_table.specs.Seated.{TableId}
use Rattle.book_state.specs.declared.entry.Entry.{Entry}
use Rattle.book_front.specs.Seats.{knows, IsKeeper, IsPass, IsNew}
use Rattle.book_front.specs.Views.{nobody}
use Rattle.book_front.specs.declared.seat.PassSeat.{PassSeat}
use Rattle.book_front.specs.declared.view.View.{View}

abbrev pub view_in : Option PassSeat → View
view_in None = nobody
view_in (Some seat) = knows seat

-- the keeper's seat, or a pass's, is there
abbrev pub HasKeeper : TableId → Option PassSeat → Type 0
HasKeeper word None = ⊥
HasKeeper word (Some seat) = IsKeeper word seat

abbrev pub HasPass : TableId → Option PassSeat → Type 0
HasPass word None = ⊥
HasPass word (Some seat) = IsPass word seat

-- a history with one more entry, which is of this number
pub record HasNext (before : List Entry) (number : ℕ) (after : List Entry) : Type 0 where
  pub e : Entry
  pub number_is : e.number ≡ number
  pub after_is : after ≡ before ++ e ∷ []

-- the seats of new passes, by number
abbrev pub AreNewSeats : TableId → List PassSeat → Type 0
AreNewSeats word seats = (at : ℕ) (s : PassSeat) → slice_get seats at ≡ Some s → IsNew word at s
