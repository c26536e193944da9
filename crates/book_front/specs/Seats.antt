-- The seats of a front, as clauses see them.
use Rattle.std.specs.Prelude.{◌≡◌, ℕ, true, false, List, [], ◌∷◌, ◌++◌, length, Some, slice_get}
use mathlib.Core.List.{IsPrefix}
use Rattle.atomic_table.specs.Seated.{TableId}
use Rattle.book_state.specs.Entries.{calls_of}
use Rattle.book_state.specs.declared.entry.Entry.{Entry}
use Rattle.book_front.specs.declared.seat.Front.{Front}
use Rattle.book_front.specs.declared.seat.PassSeat.{PassSeat}
use Rattle.book_front.specs.declared.view.View.{View}

-- which word it is
abbrev pub word_of : Front → TableId
word_of front = front.table.shared.table_id

-- what a seat knows
abbrev pub knows : PassSeat → View
knows s = s.seat.me.0

-- the seat is the word's, and has the keeper's role
pub record IsKeeper (word : TableId) (s : PassSeat) : Type 0 where
  pub word_is : s.seat.table_id ≡ word
  pub keeps : (knows s).keeps ≡ true
  pub unnumbered : (knows s).numbered ≡ false

-- the seat is the word's, and has a number
pub record IsPass (word : TableId) (s : PassSeat) : Type 0 where
  pub word_is : s.seat.table_id ≡ word
  pub numbered : (knows s).numbered ≡ true

-- a pass's seat before and after a call
pub record IsSame (word : TableId) (old new : PassSeat) : Type 0 where
  pub pass : IsPass word new
  pub number : (knows new).number ≡ (knows old).number

-- the keeper's seat and a pass's behind a call by which the pass added an entry
pub record HasAppended (word : TableId) (keeper seat : PassSeat) (entry : Entry) (after : PassSeat × PassSeat) : Type 0 where
  pub keeper_is : IsKeeper word after.0
  pub pass : IsSame word seat after.1
  pub old : IsPrefix (knows seat).seen (knows keeper).seen
  pub seen : (knows after.1).seen ≡ (knows keeper).seen ++ entry ∷ []
  pub mine : (knows after.1).mine ≡ (knows seat).mine ++ entry ∷ []
  pub calls : (knows after.1).mine ≡ calls_of (knows seat).number (knows after.1).seen
  pub list : (knows after.0).seen ≡ (knows after.1).seen
  pub made : (knows after.0).made ≡ (knows keeper).made

-- the pass of a number, which has seen nothing yet
pub record IsNew (word : TableId) (number : ℕ) (s : PassSeat) : Type 0 where
  pub pass : IsPass word s
  pub number_is : (knows s).number ≡ number
  pub seen : (knows s).seen ≡ []
  pub mine : (knows s).mine ≡ []

-- the keeper has given out so many numbers, to these passes, and nobody has seen an entry yet
pub record AreFresh (word : TableId) (passes : ℕ) (keeper : PassSeat) (seats : List PassSeat) : Type 0 where
  pub keeper_is : IsKeeper word keeper
  pub seen : (knows keeper).seen ≡ []
  pub made : (knows keeper).made ≡ passes
  pub count : length seats ≡ passes
  pub each : (at : ℕ) (s : PassSeat) → slice_get seats at ≡ Some s → IsNew word at s

-- the pass of a number
pub record IsPassOf (word : TableId) (number : ℕ) (s : PassSeat) : Type 0 where
  pub pass : IsPass word s
  pub number_is : (knows s).number ≡ number

-- all passes of a front by number
pub record AreAll (word : TableId) (made : ℕ) (seats : List PassSeat) : Type 0 where
  pub count : length seats ≡ made
  pub each : (at : ℕ) (s : PassSeat) → slice_get seats at ≡ Some s → IsPassOf word at s

-- what a pass has seen begins the history, and its own entries are all those of its number there
pub record IsIn (log : List Entry) (number : ℕ) (s : PassSeat) : Type 0 where
  pub begins : IsPrefix (knows s).seen log
  pub mine : (knows s).mine ≡ calls_of number log

abbrev pub AreIn : List Entry → List PassSeat → Type 0
AreIn log seats = (at : ℕ) (s : PassSeat) → slice_get seats at ≡ Some s → IsIn log at s
