-- Books as contracts see them.
use Rattle.std.specs.Prelude.{ℕ, List, [], ◌∷◌, ◌++◌}
use Rattle.grid_demand.specs.Tables.{CapacityView}
use Rattle.book_state.specs.declared.entry.Call.{Call}
use Rattle.book_state.specs.declared.entry.Entry.{Entry}
use Rattle.book_state.specs.declared.entry.Reply.{Reply}

-- a book: the capacity of its design, whose nets it counts too, and its history
pub record BookView : Type 0 where
  pub capacity : CapacityView
  pub history : List Entry

abbrev pub entry_of : ℕ → Call → Reply → Entry
entry_of number call reply = record { number = number; call = call; reply = reply }

-- the book with one more entry
abbrev pub with_entry : BookView → Entry → BookView
with_entry b e = record { capacity = b.capacity; history = b.history ++ e ∷ [] }

abbrev pub with_call : BookView → ℕ → Call → Reply → BookView
with_call b number call reply = with_entry b (entry_of number call reply)
