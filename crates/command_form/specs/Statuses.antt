-- What each status of a run says.
use Rattle.std.specs.Prelude.{◌≡◌, ℕ, ◌⊎◌, ◌↔◌, Bool, false, not, nat_eq, [], ◌∷◌, Option, Some, None, Result, Ok, Err, IsTrue}
use Rattle.std.specs.List.{list_any}
use Rattle.gr_io.specs.Counts.{Rose}
use Rattle.gr_io.specs.Devices.{Device, Reading, IsUntouched, GainsLine}
use Rattle.gr_io.specs.declared.shelf.Slot.{Slot}
use Rattle.gr_io.specs.declared.shelf.Slot.TheVariants.{Design, Library, Solution}
use Rattle.word_reader.specs.declared.program.Program.{Program}
use Rattle.command_form.specs.Commands.{Command, Asked, Unasked, Asks, reads_some}
use Rattle.command_form.specs.Leaving.{IsDone, IsFaulty, IsRefused, FailsToRead, FailsToWrite, WantsMemory}
use Rattle.command_form.specs.Stops.{status_of, told_line}
use Rattle.command_form.specs.declared.stop.Stop.{Stop}
use Rattle.command_form.specs.declared.stop.Outcome.TheVariants.{Whole, Open}
use Rattle.command_form.specs.declared.stop.Stop.TheVariants.{Usage, Fault, NotTree, ReadFailed, NoMemory}

-- the statuses of a run
abbrev pub is_status : ℕ → Bool
is_status status = list_any (nat_eq status) (0 ∷ 1 ∷ 2 ∷ 3 ∷ 4 ∷ 5 ∷ 6 ∷ 7 ∷ 8 ∷ [])

-- the first fault of the held texts is one of this text, which err was told
pub record ReportsFault {K : Type 0} (program : Program) (text : Slot) (command : Command K) (shelf : Reading)
    (out err : Device) : Type 0 where
  pub number : ℕ
  pub token : ℕ
  pub faulty : IsFaulty command shelf out (Fault text number token)
  pub line : GainsLine err (told_line program (Fault text number token))

-- the solution has a routed net whose edges aren't a tree, of which err was told
pub record ReportsNet {K : Type 0} (program : Program) (command : Command K) (shelf : Reading)
    (out err : Device) : Type 0 where
  pub id : ℕ
  pub refused : IsRefused command shelf out (NotTree id)
  pub line : GainsLine err (told_line program (NotTree id))

-- a write that may fail failed: one to out, or, where the command writes a report, one to err
abbrev pub SomeWriteFails : {K : Type 0} → Command K → (out err : Device) → Type 0
SomeWriteFails command out err =
    Rose out.faults out.faults_after ⊎ (IsTrue command.reports × Rose err.faults err.faults_after)

-- the command stops for another cause than a fault of its files, with this status
abbrev pub SomeIsRefused : {K : Type 0} → Command K → Reading → ℕ → Type 0
SomeIsRefused command shelf status = (stop : Stop) × command.refuses shelf stop × (status ≡ status_of stop)

-- the answer to accepted files, over sinks that don't fail, and to files at fault
abbrev pub IsAnswer : {K : Type 0} → Command K → Reading → Result (Unit {0}) Stop → (out err : Device) → ℕ → Type 0
IsAnswer command shelf (Ok accepted) out err status =
    (SomeWriteFails command out err → ⊥) →
    (status ≡ 0) ⊎ (status ≡ 1) ⊎ (status ≡ 8) ⊎ SomeIsRefused command shelf status
IsAnswer command shelf (Err stop) out err status = (status ≡ status_of stop) ⊎ (status ≡ 8)

-- what holds of the command, where the words give one
abbrev pub OfCommand : {K : Type 0} → Asked K → (Command K → Type 0) → Type 0
OfCommand Unasked P = Unit {0}
OfCommand (Asks command) P = P command

abbrev pub IsUnasked : {K : Type 0} → Asked K → Type 0
IsUnasked Unasked = Unit {0}
IsUnasked (Asks command) = ⊥

-- how a run of a program ends, by its status, and what it hands back
pub record IsByStatus {K : Type 0} (program : Program) (asked : Asked K) (shelf : Reading) (out err : Device)
    (kept : Option K) (status : ℕ) : Type 0 where
  pub known : IsTrue (is_status status)
  -- the words give no command
  pub usage : (status ≡ 2) ↔ IsUnasked asked
  pub usage_line : status ≡ 2 → IsUntouched out × GainsLine err (told_line program Usage)
  -- the command was done, and no net that was judged is open
  pub whole : status ≡ 0 → OfCommand asked (λ command. IsDone command shelf out err kept Whole)
  -- it was done, and some routed net isn't joined
  pub unjoined : status ≡ 1 → OfCommand asked (λ command. IsDone command shelf out err kept Open)
  -- the design's text has a fault: the first one, and its token, are told
  pub design_fault : status ≡ 3 → OfCommand asked (λ command. ReportsFault program Design command shelf out err)
  -- the design is accepted, and the library's text has a fault, which is told likewise
  pub library_fault : status ≡ 4 → OfCommand asked (λ command. ReportsFault program Library command shelf out err)
  -- the texts before it are accepted, and the solution's text has a fault, or all are accepted, and the command asks
  -- for trees where a routed net has none: the first such net's id is told
  pub solution_fault : status ≡ 5 → OfCommand asked (λ command.
      ReportsFault program Solution command shelf out err ⊎ ReportsNet program command shelf out err)
  -- a read failed, or a name of the command is missing
  pub read_failed : status ≡ 6 →
      OfCommand asked (λ command. FailsToRead command shelf out × GainsLine err (told_line program ReadFailed))
  -- a write failed
  pub write_failed : status ≡ 7 → OfCommand asked (λ command. FailsToWrite command shelf out err kept)
  -- memory was wanting
  pub no_memory : status ≡ 8 →
      OfCommand asked (λ command. WantsMemory command shelf out kept × GainsLine err (told_line program NoMemory))
  -- no book is handed back where no route was made
  pub unkept : (status ≡ 0 → ⊥) → (status ≡ 7 → ⊥) → (status ≡ 8 → ⊥) → kept ≡ None
  -- over devices that don't fail, held files are answered by what they say, if memory serves
  pub completes : OfCommand asked (λ command. IsTrue shelf.tells → (Rose shelf.faults shelf.faults_after → ⊥) →
      (said : Result (Unit {0}) Stop) → command.files shelf ≡ Some said → IsAnswer command shelf said out err status)
  -- of the commands that are done those end with 1 by whose files some routed net isn't joined
  pub opens : OfCommand asked (λ command. IsTrue shelf.tells →
      (status ≡ 1 → command.is_open shelf) × (status ≡ 0 → command.is_open shelf → ⊥))

-- a command that reads no texts, where the words give one
abbrev pub is_apart : {K : Type 0} → Asked K → Bool
is_apart Unasked = false
is_apart (Asks command) = not (reads_some command)

-- it leaves the shelf as it was, and ends with one of these statuses
pub record IsApart {T : Type 0} (old new : T) (status : ℕ) : Type 0 where
  pub shelf : new ≡ old
  pub known : IsTrue (list_any (nat_eq status) (0 ∷ 7 ∷ 8 ∷ []))
