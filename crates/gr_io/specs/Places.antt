-- The places in the texts of a shelf over memory.
use Rattle.std.specs.Prelude.{ℕ, ◌<◌, ◌≤◌, ⊤, List, Option, Some, None, drop, length}
use Rattle.gr_io.specs.Slots.{at_slot}
use Rattle.gr_io.specs.Texts.{HeldText, bytes_at}
use Rattle.gr_io.specs.declared.memory_shelf.NextByte.{NextByte}
use Rattle.gr_io.specs.declared.shelf.Slot.{Slot}
use Rattle.gr_io.specs.declared.slots.Slots.{Slots}

-- what is left of the text from a place on
abbrev pub left_of : List HeldText → Option NextByte → Option (List ℕ)
left_of texts None = None
left_of texts (Some place) = Some (drop place.at (bytes_at texts place.text))

-- a place is in one of the texts
abbrev pub IsPlace : List HeldText → Option NextByte → Type 0
IsPlace texts None = ⊤
IsPlace texts (Some place) = (place.text < length texts) × (place.at ≤ length (bytes_at texts place.text))

-- so is each slot's
abbrev pub ArePlaces : List HeldText → Slots (Option NextByte) → Type 0
ArePlaces texts places = (slot : Slot) → IsPlace texts (at_slot places slot)
