-- What stands at a slot after a change of one.
use Rattle.std.proofs.Common.{◌≡◌, refl}
use Rattle.gr_io.specs.Slots.{at_slot, set_slot, map_slots, zip_slots}
use Rattle.gr_io.specs.declared.shelf.Slot.{Slot}
use Rattle.gr_io.specs.declared.shelf.Slot.TheVariants.{Design, Library, Solution}
use Rattle.gr_io.specs.declared.slots.Slots.{Slots}

-- a slot that was set has the new value
pub at_slot-set_slot : {A : Type 0} (slots : Slots A) (slot : Slot) (value : A) → at_slot (set_slot slots slot value) slot ≡ value
at_slot-set_slot slots Design value = refl
at_slot-set_slot slots Library value = refl
at_slot-set_slot slots Solution value = refl

-- a fact of each slot's value stays where the new value has it too
pub set_slot-each : {A : Type 0} (P : Slot → A → Type 0) (slots : Slots A) (slot : Slot) (value : A) → ((other : Slot) → P other (at_slot slots other)) → P slot value → (other : Slot) → P other (at_slot (set_slot slots slot value) other)
set_slot-each P slots Design value each new Design = new
set_slot-each P slots Design value each new Library = each Library
set_slot-each P slots Design value each new Solution = each Solution
set_slot-each P slots Library value each new Design = each Design
set_slot-each P slots Library value each new Library = new
set_slot-each P slots Library value each new Solution = each Solution
set_slot-each P slots Solution value each new Design = each Design
set_slot-each P slots Solution value each new Library = each Library
set_slot-each P slots Solution value each new Solution = new

pub at_slot-map_slots : {A B : Type 0} (f : A → B) (slots : Slots A) (slot : Slot) → at_slot (map_slots f slots) slot ≡ f (at_slot slots slot)
at_slot-map_slots f slots Design = refl
at_slot-map_slots f slots Library = refl
at_slot-map_slots f slots Solution = refl

pub map_slots-set_slot : {A B : Type 0} (f : A → B) (slots : Slots A) (slot : Slot) (value : A) → map_slots f (set_slot slots slot value) ≡ set_slot (map_slots f slots) slot (f value)
map_slots-set_slot f slots Design value = refl
map_slots-set_slot f slots Library value = refl
map_slots-set_slot f slots Solution value = refl

-- two functions that agree on each slot's value
pub map_slots-agree : {A B : Type 0} (f g : A → B) (slots : Slots A) → ((slot : Slot) → f (at_slot slots slot) ≡ g (at_slot slots slot)) → map_slots f slots ≡ map_slots g slots
map_slots-agree f g slots agree = λ i. record { design = agree Design i; library = agree Library i; solution = agree Solution i }

pub at_slot-zip_slots : {A B C : Type 0} (f : A → B → C) (xs : Slots A) (ys : Slots B) (slot : Slot) → at_slot (zip_slots f xs ys) slot ≡ f (at_slot xs slot) (at_slot ys slot)
at_slot-zip_slots f xs ys Design = refl
at_slot-zip_slots f xs ys Library = refl
at_slot-zip_slots f xs ys Solution = refl
