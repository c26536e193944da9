-- The form that all commands have: what the files of one say, and what it writes.
use Rattle.std.specs.Prelude.{◌≡◌, ℕ, Bool, ◌||◌, List, Option, Some, None, Result, Ok, Err, IsTrue}
use Rattle.gr_io.specs.Devices.{Reading}
use Rattle.gr_io.specs.declared.shelf.Slot.{Slot}
use Rattle.gr_io.specs.declared.shelf.Slot.TheVariants.{Design, Library, Solution}
use Rattle.command_form.specs.declared.stop.Outcome.{Outcome}
use Rattle.command_form.specs.declared.stop.Outcome.TheVariants.{Whole, Open}
use Rattle.command_form.specs.declared.stop.Stop.{Stop}

-- a command, which hands back a value of this type, or nothing
pub record Command (K : Type 0) : Type 1 where
  -- which texts it reads
  pub reads : Slot → Bool
  -- what its files say, in the order in which they are read: all is well, or the first fault; None where the file that
  -- is wanted isn't held
  pub files : Reading → Option (Result (Unit {0}) Stop)
  -- for which other cause it stops where all of its files are accepted
  pub refuses : Reading → Stop → Type 0
  -- what out and err gain where it is carried out, and what is handed back
  pub says : Reading → Option K → Outcome → (text report : List ℕ) → Type 0
  -- whether it writes a report on err
  pub reports : Bool
  -- by what its files say, some routed net isn't joined
  pub is_open : Reading → Type 0

-- what words ask for: a command, or nothing that is one
pub data Asked (K : Type 0) : Type 1 where
  Unasked : Asked K
  Asks : Command K → Asked K

-- it reads some text
abbrev pub reads_some : {K : Type 0} → Command K → Bool
reads_some command = command.reads Design || command.reads Library || command.reads Solution

-- the first fault of a text, or what comes of the value that it says
abbrev pub checked : {A F : Type 0} → Option (Result A (F × ℕ)) → (F → ℕ → Stop) →
    (A → Option (Result (Unit {0}) Stop)) → Option (Result (Unit {0}) Stop)
checked None stop next = None
checked (Some (Ok value)) stop next = next value
checked (Some (Err fault)) stop next = Some (Err (stop fault.0 fault.1))

-- what the texts that a command writes say of its files
pub record IsLawful {K : Type 0} (command : Command K) : Type 0 where
  -- what is refused has accepted files
  pub refuses : (shelf : Reading) (stop : Stop) → command.refuses shelf stop → IsTrue shelf.tells →
      command.files shelf ≡ Some (Ok tt)
  -- files are accepted where texts were made of them
  pub accepts : (shelf : Reading) (kept : Option K) (outcome : Outcome) (text report : List ℕ) →
      command.says shelf kept outcome text report → IsTrue shelf.tells → command.files shelf ≡ Some (Ok tt)
  -- what is found open is open by the files, and nothing is handed back then
  pub opens : (shelf : Reading) (kept : Option K) (text report : List ℕ) →
      command.says shelf kept Open text report → IsTrue shelf.tells → command.is_open shelf
  pub closes : (shelf : Reading) (kept : Option K) (text report : List ℕ) →
      command.says shelf kept Whole text report → IsTrue shelf.tells → command.is_open shelf → ⊥
  pub unkept : (shelf : Reading) (kept : Option K) (text report : List ℕ) →
      command.says shelf kept Open text report → kept ≡ None
  -- only texts that are read are refused, or found open
  pub refuses_read : (shelf : Reading) (stop : Stop) → command.refuses shelf stop → IsTrue (reads_some command)
  pub opens_read : (shelf : Reading) (kept : Option K) (text report : List ℕ) →
      command.says shelf kept Open text report → IsTrue (reads_some command)
