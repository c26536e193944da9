-- Values by slot.
use Rattle.gr_io.specs.declared.shelf.Slot.{Slot}
use Rattle.gr_io.specs.declared.shelf.Slot.TheVariants.{Design, Library, Solution}
use Rattle.gr_io.specs.declared.slots.Slots.{Slots}

-- what stands at a slot
abbrev pub at_slot : {A : Type 0} → Slots A → Slot → A
at_slot slots Design = slots.design
at_slot slots Library = slots.library
at_slot slots Solution = slots.solution

-- the same, with another value at one slot
abbrev pub set_slot : {A : Type 0} → Slots A → Slot → A → Slots A
set_slot slots Design value = record slots { design = value }
set_slot slots Library value = record slots { library = value }
set_slot slots Solution value = record slots { solution = value }

-- a function of each slot's value
abbrev pub map_slots : {A B : Type 0} → (A → B) → Slots A → Slots B
map_slots f slots = record { design = f slots.design; library = f slots.library; solution = f slots.solution }

-- a function of two values at each slot
abbrev pub zip_slots : {A B C : Type 0} → (A → B → C) → Slots A → Slots B → Slots C
zip_slots f xs ys = record {
  design = f xs.design ys.design;
  library = f xs.library ys.library;
  solution = f xs.solution ys.solution;
}
