-- What is seen of a shelf that never fails, and what its calls do to it.
use Rattle.std.specs.Prelude.{ℕ, ◌≤◌, Bool, ⊤, List, [], Option, Some, None, drop, is_some, length, min, unwrap_or}
use Rattle.gr_io.specs.Slots.{at_slot, set_slot}
use Rattle.gr_io.specs.declared.shelf.Slot.{Slot}
use Rattle.gr_io.specs.declared.slots.Slots.{Slots}

-- a shelf with one text a slot, and what each slot has left to read, or None where it isn't open
pub record SureTexts : Type 0 where
  pub texts : Slots (List ℕ)
  pub left : Slots (Option (List ℕ))

-- three texts, of which none is open
abbrev pub whole_texts : List ℕ → List ℕ → List ℕ → SureTexts
whole_texts design library solution = record {
  texts = record { design = design; library = library; solution = solution };
  left = record { design = None; library = None; solution = None };
}

-- a slot's text is held under every name
abbrev pub text_at : SureTexts → Slot → List ℕ → Option (List ℕ)
text_at shelf slot name = Some (at_slot shelf.texts slot)

-- whether the slot is open
abbrev pub is_opened : SureTexts → Slot → Bool
is_opened shelf slot = is_some (at_slot shelf.left slot)

-- what the slot has left to read
abbrev pub rest_of : SureTexts → Slot → List ℕ
rest_of shelf slot = unwrap_or (at_slot shelf.left slot) []

-- after a `reach`: the slot has its whole text left to read
abbrev pub after_open : SureTexts → Slot → SureTexts
after_open shelf slot = record shelf { left = set_slot shelf.left slot (Some (at_slot shelf.texts slot)) }

-- after a `read` into so much room
abbrev pub after_take : SureTexts → Slot → ℕ → SureTexts
after_take shelf slot room =
    let rest = rest_of shelf slot in
    record shelf { left = set_slot shelf.left slot (Some (drop (min room (length rest)) rest)) }

-- what is left of a text from a place on
abbrev pub rest_from : List ℕ → Option ℕ → Option (List ℕ)
rest_from text None = None
rest_from text (Some at) = Some (drop at text)

-- a place is in the text
abbrev pub IsWithin : List ℕ → Option ℕ → Type 0
IsWithin text None = ⊤
IsWithin text (Some at) = at ≤ length text

-- each slot's place is in its text
abbrev pub AreWithin : Slots (List ℕ) → Slots (Option ℕ) → Type 0
AreWithin texts places = (slot : Slot) → IsWithin (at_slot texts slot) (at_slot places slot)
