-- What a command leaves on its devices, by how it ends.
use Rattle.std.specs.Prelude.{◌≡◌, ℕ, ◌⊎◌, List, Option, Some, None, Result, Ok, Err, IsTrue}
use Rattle.gr_io.specs.Counts.{Rose}
use Rattle.gr_io.specs.Devices.{Device, Reading, IsUntouched, Gains, GainsPart}
use Rattle.command_form.specs.Commands.{Command, reads_some}
use Rattle.command_form.specs.declared.stop.Outcome.{Outcome}
use Rattle.command_form.specs.declared.stop.Outcome.TheVariants.{Whole}
use Rattle.command_form.specs.declared.stop.Stop.{Stop}
use Rattle.command_form.specs.declared.stop.Stop.TheVariants.{Usage, Fault, NotTree, ReadFailed, WriteFailed, NoMemory}

-- out and err gained their whole texts
pub record IsDone {K : Type 0} (command : Command K) (shelf : Reading) (out err : Device) (kept : Option K)
    (outcome : Outcome) : Type 0 where
  pub reads : shelf.faults_after ≡ shelf.faults
  pub text : List ℕ
  pub report : List ℕ
  pub out_gains : Gains out text
  pub err_gains : Gains err report
  pub says : command.says shelf kept outcome text report

-- out gained a first part of its text
pub record IsPartDone {K : Type 0} (command : Command K) (shelf : Reading) (out : Device)
    (kept : Option K) : Type 0 where
  pub outcome : Outcome
  pub text : List ℕ
  pub report : List ℕ
  pub part : GainsPart out text
  pub says : command.says shelf kept outcome text report

-- out gained its whole text, and err a first part of its own, at a write that failed
pub record IsHalfDone {K : Type 0} (command : Command K) (shelf : Reading) (out err : Device)
    (kept : Option K) : Type 0 where
  pub reads : shelf.faults_after ≡ shelf.faults
  pub outcome : Outcome
  pub text : List ℕ
  pub report : List ℕ
  pub reports : IsTrue command.reports
  pub out_gains : Gains out text
  pub cause : Rose err.faults err.faults_after
  pub part : GainsPart err report
  pub says : command.says shelf kept outcome text report

-- a fault of a text that the command reads
abbrev pub IsOfText : {K : Type 0} → Command K → Stop → Type 0
IsOfText command (Fault text number token) = IsTrue (command.reads text)
IsOfText command stop = ⊥

-- the held texts have this first fault
pub record IsFaulty {K : Type 0} (command : Command K) (shelf : Reading) (out : Device) (stop : Stop) : Type 0 where
  pub read : IsOfText command stop
  pub reads : shelf.faults_after ≡ shelf.faults
  pub said : IsTrue shelf.tells → command.files shelf ≡ Some (Err stop)
  pub unwritten : IsUntouched out

-- the held texts are accepted, and the command stops for another cause that they have
pub record IsRefused {K : Type 0} (command : Command K) (shelf : Reading) (out : Device) (stop : Stop) : Type 0 where
  pub reads : shelf.faults_after ≡ shelf.faults
  pub refuses : command.refuses shelf stop
  pub unwritten : IsUntouched out

-- a name of the command is missing
abbrev pub IsMissing : {K : Type 0} → Command K → Reading → Type 0
IsMissing command shelf = Rose shelf.misses shelf.misses_after × (IsTrue shelf.tells → command.files shelf ≡ None)

-- a read failed, or a name is missing
pub record FailsToRead {K : Type 0} (command : Command K) (shelf : Reading) (out : Device) : Type 0 where
  pub read : IsTrue (reads_some command)
  pub cause : Rose shelf.faults shelf.faults_after ⊎ IsMissing command shelf
  pub unwritten : IsUntouched out

-- a write to out failed, before err was written to
pub record FailsOut {K : Type 0} (command : Command K) (shelf : Reading) (out err : Device)
    (kept : Option K) : Type 0 where
  pub reads : shelf.faults_after ≡ shelf.faults
  pub cause : Rose out.faults out.faults_after
  pub part : IsPartDone command shelf out kept
  pub silent : IsUntouched err

-- a write to out failed, or one to err
abbrev pub FailsToWrite : {K : Type 0} → Command K → Reading → (out err : Device) → Option K → Type 0
FailsToWrite command shelf out err kept = FailsOut command shelf out err kept ⊎ IsHalfDone command shelf out err kept

-- memory was wanting before out was written to, or as it was
abbrev pub WantsMemory : {K : Type 0} → Command K → Reading → (out : Device) → Option K → Type 0
WantsMemory command shelf out kept = (IsUntouched out × (kept ≡ None)) ⊎ IsPartDone command shelf out kept

-- err gained nothing, and nothing is handed back
abbrev pub IsSilent : {K : Type 0} → (err : Device) → Option K → Type 0
IsSilent err kept = IsUntouched err × (kept ≡ None)

-- what a command leaves, by how it ends, before err is told of a stop; that memory is wanting says nothing of the cause
abbrev pub Leaves : {K : Type 0} → Command K → Reading → (out err : Device) → Option K → Result Outcome Stop → Type 0
Leaves command shelf out err kept (Ok outcome) = IsDone command shelf out err kept outcome
Leaves command shelf out err kept (Err (Fault text number token)) =
    IsFaulty command shelf out (Fault text number token) × IsSilent err kept
Leaves command shelf out err kept (Err (NotTree id)) = IsRefused command shelf out (NotTree id) × IsSilent err kept
Leaves command shelf out err kept (Err ReadFailed) = FailsToRead command shelf out × IsSilent err kept
Leaves command shelf out err kept (Err WriteFailed) = FailsToWrite command shelf out err kept
Leaves command shelf out err kept (Err NoMemory) = WantsMemory command shelf out kept × IsUntouched err
Leaves command shelf out err kept (Err Usage) = ⊥

-- what a command leaves that writes nothing on err
abbrev pub LeavesOut : {K : Type 0} → Command K → Reading → (out : Device) → Option K → Result Outcome Stop → Type 0
LeavesOut command shelf out kept end = (err : Device) → IsUntouched err → Leaves command shelf out err kept end

-- what a command leaves that reads no texts
abbrev pub LeavesApart : {K : Type 0} → Command K → (out err : Device) → Option K → Result Outcome Stop → Type 0
LeavesApart command out err kept end =
    (shelf : Reading) → shelf.faults_after ≡ shelf.faults → Leaves command shelf out err kept end

-- what a command leaves that reads no texts, and writes nothing on err
abbrev pub LeavesAlone : {K : Type 0} → Command K → (out : Device) → Option K → Result Outcome Stop → Type 0
LeavesAlone command out kept end =
    (shelf : Reading) → shelf.faults_after ≡ shelf.faults → LeavesOut command shelf out kept end

-- a write to out failed, before err was written to, or one to err, after out gained its whole text
abbrev pub SomeIsCut : (text report : List ℕ) → (out err : Device) → Type 0
SomeIsCut text report out err =
    (Rose out.faults out.faults_after × GainsPart out text × IsUntouched err) ⊎
    (Gains out text × Rose err.faults err.faults_after × GainsPart err report)

-- what the writing of a text to out, and of its report to err after it, leaves, by how it ends
abbrev pub IsWritten : (text report : List ℕ) → (out err : Device) → Result Outcome Stop → Type 0
IsWritten text report out err (Ok outcome) = (outcome ≡ Whole) × Gains out text × Gains err report
IsWritten text report out err (Err WriteFailed) = SomeIsCut text report out err
IsWritten text report out err (Err NoMemory) = GainsPart out text × IsUntouched err
IsWritten text report out err (Err stop) = ⊥

-- out gained one of the texts that are said
pub record HasWritten (says : Outcome → List ℕ → Type 0) (out : Device) (outcome : Outcome) : Type 0 where
  pub text : List ℕ
  pub said : says outcome text
  pub gains : Gains out text

-- a write to out failed, which gained a first part of one of the texts
pub record HasCut (says : Outcome → List ℕ → Type 0) (out : Device) : Type 0 where
  pub outcome : Outcome
  pub text : List ℕ
  pub said : says outcome text
  pub cause : Rose out.faults out.faults_after
  pub part : GainsPart out text

-- what the writing of one of these texts to out leaves, by how it ends, or a stop before it
abbrev pub WritesOne : (Outcome → List ℕ → Type 0) → (Stop → Type 0) → (out : Device) → Result Outcome Stop → Type 0
WritesOne says stops out (Ok outcome) = HasWritten says out outcome
WritesOne says stops out (Err WriteFailed) = HasCut says out
WritesOne says stops out (Err NoMemory) = IsUntouched out
WritesOne says stops out (Err stop) = stops stop × IsUntouched out

-- what the writing of a text to out leaves, by how it ends
abbrev pub WritesOut : (text : List ℕ) → (out : Device) → Result Outcome Stop → Type 0
WritesOut text out (Ok outcome) = (outcome ≡ Whole) × Gains out text
WritesOut text out (Err WriteFailed) = Rose out.faults out.faults_after × GainsPart out text
WritesOut text out (Err NoMemory) = IsUntouched out
WritesOut text out (Err stop) = ⊥
