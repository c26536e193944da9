-- How a run ends.
use Rattle.std.specs.Prelude.{◌≡◌, ℕ, List, Option, Result, Err}
use Rattle.gr_io.specs.Devices.{Device, Reading, IsUntouched}
use Rattle.command_form.specs.Commands.{Asked, Unasked, Asks}
use Rattle.command_form.specs.Leaving.{IsSilent, Leaves}
use Rattle.command_form.specs.Stops.{Finishes}
use Rattle.word_reader.specs.declared.program.Program.{Program}
use Rattle.command_form.specs.declared.stop.Outcome.{Outcome}
use Rattle.command_form.specs.declared.stop.Stop.{Stop}
use Rattle.command_form.specs.declared.stop.Stop.TheVariants.{Usage}

-- what the carrying out of a command leaves, by how it ends; words that give none leave everything as it was
abbrev pub LeavesFor : {K : Type 0} → Asked K → Reading → (out err : Device) → Option K → Result Outcome Stop → Type 0
LeavesFor Unasked shelf out err kept end = (end ≡ Err Usage) × IsUntouched out × IsSilent err kept
LeavesFor (Asks command) shelf out err kept end = Leaves command shelf out err kept end

-- a sink up to a moment, by its count of faults and its bytes then, and from there on
abbrev pub upto : Device → ℕ → List ℕ → Device
upto device faults written = record {
  tells = device.tells;
  faults = device.faults;
  faults_after = faults;
  written = device.written;
  written_after = written;
}

abbrev pub afterwards : Device → ℕ → List ℕ → Device
afterwards device faults written = record {
  tells = device.tells;
  faults = faults;
  faults_after = device.faults_after;
  written = written;
  written_after = device.written_after;
}

-- a run of a program comes to an end with this status: its command left what it says, and then err was told of it
pub record Ends {K : Type 0} (program : Program) (asked : Asked K) (shelf : Reading) (out err : Device)
    (kept : Option K) (status : ℕ) : Type 0 where
  pub end : Result Outcome Stop
  -- err's count of faults and its bytes before it was told
  pub faults : ℕ
  pub written : List ℕ
  pub leaves : LeavesFor asked shelf out (upto err faults written) kept end
  pub finishes : Finishes program (afterwards err faults written) end status
