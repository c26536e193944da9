-- What is seen of a shelf over memory, and what its calls do to it.
use Rattle.std.specs.Prelude.{ℕ, ◌-◌, ◌^◌, Bool, List, [], Option, Some, None, Result, Ok, Err, if◌then◌else◌, bytes_eq, drop, find, is_some, length, min, option_map, slice_index_or, unwrap_or}
use Rattle.gr_io.specs.Calls.{CallLog, no_calls, next_fails, after_call}
use Rattle.gr_io.specs.Counts.{one_more}
use Rattle.gr_io.specs.Slots.{at_slot, set_slot}
use Rattle.gr_io.specs.declared.shelf.ReachError.{ReachError}
use Rattle.gr_io.specs.declared.shelf.ReachError.TheVariants.{Failed, Missing}
use Rattle.gr_io.specs.declared.shelf.Slot.{Slot}
use Rattle.gr_io.specs.declared.slots.Slots.{Slots}

-- a text that a shelf holds under a name
pub record HeldText : Type 0 where
  pub name : List ℕ
  pub bytes : List ℕ

-- a shelf over memory: its texts, its calls, how often a name was missing, how many bytes a read gives at most,
-- and what each slot has left to read, or None where no text is open in it
pub record MemoryTexts : Type 0 where
  pub texts : List HeldText
  pub log : CallLog
  pub misses : ℕ
  pub piece : ℕ
  pub left : Slots (Option (List ℕ))

-- no text is held, and nothing bounds a piece
abbrev pub empty_shelf : List ℕ → MemoryTexts
empty_shelf fails = record {
  texts = [];
  log = no_calls fails;
  misses = 0;
  piece = 2 ^ 64 - 1;
  left = record { design = None; library = None; solution = None };
}

-- the bytes of a text by its number
abbrev pub bytes_at : List HeldText → ℕ → List ℕ
bytes_at texts number = (slice_index_or texts number (record { name = []; bytes = [] })).bytes

-- the bytes under a name
abbrev pub held_in : List HeldText → List ℕ → Option (List ℕ)
held_in texts name = option_map (λ t. t.bytes) (find (λ t. bytes_eq t.name name) texts)

-- each slot finds the same bytes under a name
abbrev pub held_at : MemoryTexts → Slot → List ℕ → Option (List ℕ)
held_at shelf slot name = held_in shelf.texts name

-- whether a text is open in the slot
abbrev pub is_reached : MemoryTexts → Slot → Bool
is_reached shelf slot = is_some (at_slot shelf.left slot)

-- what the slot has left to read
abbrev pub left_at : MemoryTexts → Slot → List ℕ
left_at shelf slot = unwrap_or (at_slot shelf.left slot) []

-- the slot has these bytes left to read
abbrev pub with_left : MemoryTexts → Slot → List ℕ → MemoryTexts
with_left shelf slot bytes = record shelf { left = set_slot shelf.left slot (Some bytes) }

-- after a look for a text: it is open in the slot, or one name more was missing
abbrev pub after_look : MemoryTexts → Slot → Option (List ℕ) → MemoryTexts
after_look shelf slot None = record shelf { misses = one_more shelf.misses }
after_look shelf slot (Some bytes) = with_left shelf slot bytes

-- after one more call
abbrev pub with_call : MemoryTexts → MemoryTexts
with_call shelf = record shelf { log = after_call shelf.log }

-- what a `reach` answers: a failure at a call that is to fail, else whether the name is held
abbrev pub reach_answer : MemoryTexts → List ℕ → Result Unit ReachError
reach_answer shelf name =
    if next_fails shelf.log then Err Failed else (if is_some (held_in shelf.texts name) then Ok tt else Err Missing)

-- after a `reach`: where it isn't Ok, each slot is as before
abbrev pub after_reach : MemoryTexts → Slot → List ℕ → MemoryTexts
after_reach shelf slot name =
    if next_fails shelf.log then with_call shelf else after_look (with_call shelf) slot (held_in shelf.texts name)

-- how many bytes a read into so much room gives
abbrev pub read_count : MemoryTexts → Slot → ℕ → ℕ
read_count shelf slot room = min room (min shelf.piece (length (left_at shelf slot)))

-- after a `read` into so much room: where it fails, each slot is as before
abbrev pub after_read : MemoryTexts → Slot → ℕ → MemoryTexts
after_read shelf slot room =
    if next_fails shelf.log
    then with_call shelf
    else with_left (with_call shelf) slot (drop (read_count shelf slot room) (left_at shelf slot))
