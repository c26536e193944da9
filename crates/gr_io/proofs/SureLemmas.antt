-- A shelf that never fails, seen through its places.
use Rattle.std.proofs.Common.{◌≡◌, ℕ, List, [], Option, Some, ap, drop, subst, sym, unwrap_or, ◌∙◌}
use Rattle.gr_io.specs.Slots.{at_slot, set_slot, zip_slots}
use Rattle.gr_io.specs.Sure.{SureTexts, AreWithin, IsWithin, rest_from, rest_of}
use Rattle.gr_io.specs.declared.shelf.Slot.{Slot}
use Rattle.gr_io.specs.declared.slots.Slots.{Slots}
use Rattle.gr_io.proofs.SlotLemmas.{at_slot-zip_slots, set_slot-each}

-- the places after one was set
pub AreWithin-set_slot : (texts : Slots (List ℕ)) (places new : Slots (Option ℕ)) (slot : Slot) (place : Option ℕ) → new ≡ set_slot places slot place → AreWithin texts places → IsWithin (at_slot texts slot) place → AreWithin texts new
AreWithin-set_slot texts places new slot place e are is =
    subst (λ (ps : Slots (Option ℕ)). AreWithin texts ps) (sym e) (set_slot-each (λ (other : Slot). IsWithin (at_slot texts other)) places slot place are is)

-- a sure shelf as contracts see it, by its parts
abbrev pub seen : Slots (List ℕ) → Slots (Option ℕ) → SureTexts
seen texts places = record { texts = texts; left = zip_slots rest_from texts places }

-- what is left at a slot whose place is known
pub rest_of-seen : (texts : Slots (List ℕ)) (places : Slots (Option ℕ)) (slot : Slot) (at : ℕ) → at_slot places slot ≡ Some at → rest_of (seen texts places) slot ≡ drop at (at_slot texts slot)
rest_of-seen texts places slot at e =
    ap (λ (o : Option (List ℕ)). unwrap_or o []) (at_slot-zip_slots rest_from texts places slot ∙ ap (rest_from (at_slot texts slot)) e)
