-- The command of grbound: what its file says, and what it writes.
use Rattle.std.specs.Prelude.{◌≡◌, ℕ, Bool, true, false, ◌<◌, nat_eq, List, [], ◌∷◌, Option, Some, None, Result, Ok, Err, IsTrue}
use Rattle.std.specs.List.{list_any}
use Rattle.cut_bounds.specs.Bounds.{BoundsView, bounds_text}
use Rattle.cut_bounds.specs.BoundsOf.{bounds_of}
use Rattle.gr_base.specs.Designs.{DesignView}
use Rattle.gr_io.specs.Devices.{Device, Reading, IsUntouched}
use Rattle.gr_io.specs.declared.shelf.Slot.{Slot}
use Rattle.gr_io.specs.declared.shelf.Slot.TheVariants.{Design, Library, Solution}
use Rattle.price_bounds.specs.Texts.{prices_text, AreAtLeast}
use Rattle.price_laws.specs.Laws.{ArePriceBounds}
use Rattle.wall_laws.specs.Laws.{AreBounds}
use Rattle.word_reader.specs.Orders.{Order, Bound}
use Rattle.command_form.specs.Commands.{Command, Asked, Unasked, Asks, checked}
use Rattle.command_form.specs.Said.{design_fault, design_said}
use Rattle.command_form.specs.declared.stop.Outcome.{Outcome}
use Rattle.command_form.specs.declared.stop.Outcome.TheVariants.{Whole}
use Rattle.command_form.specs.declared.stop.Stop.{Stop}
use Rattle.command_form.specs.declared.stop.Stop.TheVariants.{NoMemory}

-- the figures of these bounds hold for all edge sets that join the routed nets of the design
abbrev pub Hold : DesignView → (via_cost : ℕ) → BoundsView → Type 0
Hold d via_cost bounds = AreBounds d via_cost bounds.overflow bounds.wirelength bounds.usable_wirelength

-- the lines of bounds by prices, which hold and are at least the others
pub record ArePriceBoundLines (d : DesignView) (via_cost : ℕ) (bounds : BoundsView) (lines : List ℕ) : Type 0 where
  pub over : ℕ
  pub length : ℕ
  pub both : ℕ
  pub says : lines ≡ prices_text over length both
  pub hold : ArePriceBounds d via_cost over length both
  pub least : AreAtLeast bounds.overflow bounds.usable_wirelength over length both

-- what stands behind the figures: without steps nothing
pub record ArePriceLines (d : DesignView) (via_cost : ℕ) (bounds : BoundsView) (steps : ℕ) (lines : List ℕ) : Type 0 where
  pub without : steps ≡ 0 → lines ≡ []
  pub by_prices : 0 < steps → ArePriceBoundLines d via_cost bounds lines

-- the text of the bounds of a design, which hold
pub record IsBoundsText (d : DesignView) (via_cost steps : ℕ) (outcome : Outcome) (text : List ℕ) : Type 0 where
  pub whole : outcome ≡ Whole
  pub lines : List ℕ
  pub says : text ≡ bounds_text (bounds_of d via_cost) lines
  pub holds : Hold d via_cost (bounds_of d via_cost)
  pub prices : ArePriceLines d via_cost (bounds_of d via_cost) steps lines

-- the text of the bounds of the design that was read: where the shelf tells, of the one that is held
pub record IsBounding (shelf : Reading) (design_name : List ℕ) (via_cost steps : ℕ) (outcome : Outcome)
    (text : List ℕ) : Type 0 where
  pub design : DesignView
  pub said : IsTrue shelf.tells → design_said shelf.held design_name ≡ Some (Ok design)
  pub bounds : IsBoundsText design via_cost steps outcome text

-- the texts that it reads
abbrev pub bounding_reads : Slot → Bool
bounding_reads Design = true
bounding_reads Library = false
bounding_reads Solution = false

-- it hands nothing back
abbrev pub bounding : (design : List ℕ) → (via_cost steps : ℕ) → Command (Unit {0})
bounding design via_cost steps = record {
  reads = bounding_reads;
  files = λ shelf. checked (design_said shelf.held design) design_fault (λ d. Some (Ok tt));
  refuses = λ shelf stop. ⊥;
  says = λ shelf kept outcome text report.
      (kept ≡ None) × (report ≡ []) × IsBounding shelf design via_cost steps outcome text;
  reports = false;
  is_open = λ shelf. ⊥;
}

-- the command that words ask for, if they give its order
abbrev pub asked_by : Option Order → Asked (Unit {0})
asked_by (Some (Bound design via_cost steps workers)) = Asks (bounding design via_cost steps)
asked_by order = Unasked

-- where memory was wanting, out gained nothing
abbrev pub IsUnwritten : (out : Device) → Result Outcome Stop → Type 0
IsUnwritten out (Err NoMemory) = IsUntouched out
IsUnwritten out end = Unit {0}

-- beside what each status says: others don't come, and where memory was wanting out gained nothing
pub record LeavesNoPart (out : Device) (status : ℕ) : Type 0 where
  pub known : IsTrue (list_any (nat_eq status) (0 ∷ 2 ∷ 3 ∷ 6 ∷ 7 ∷ 8 ∷ []))
  pub unwritten : status ≡ 8 → IsUntouched out
