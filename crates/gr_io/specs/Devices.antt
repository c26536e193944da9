-- Devices before a call and after it, as contracts see them.
use Rattle.std.specs.Prelude.{◌≡◌, ℕ, ◌⊎◌, Bool, List, ◌++◌, Option, IsTrue}
use Rattle.gr_io.specs.Counts.{Rose}
use Rattle.gr_io.specs.Parts.{AppendsPart}
use Rattle.gr_io.specs.declared.shelf.Slot.{Slot}

-- a sink's count of faults before a call and after it, and its bytes, where it tells them
pub record Device : Type 0 where
  pub tells : Bool
  pub faults : ℕ
  pub faults_after : ℕ
  pub written : List ℕ
  pub written_after : List ℕ

-- a shelf's counts before a call and after it, and what it holds, where it tells
pub record Reading : Type 0 where
  pub tells : Bool
  pub held : Slot → List ℕ → Option (List ℕ)
  pub faults : ℕ
  pub faults_after : ℕ
  pub misses : ℕ
  pub misses_after : ℕ

-- a sink of any type, by the words of its trait
abbrev pub device_of : {T : Type 0} → Bool → (faults : T → ℕ) → (written : T → List ℕ) → (old new : T) → Device
device_of tells faults written old new = record {
  tells = tells;
  faults = faults old;
  faults_after = faults new;
  written = written old;
  written_after = written new;
}

-- a shelf of any type, likewise
abbrev pub reading_of : {T : Type 0} → Bool → (held : T → Slot → List ℕ → Option (List ℕ)) → (faults misses : T → ℕ) →
    (old new : T) → Reading
reading_of tells held faults misses old new = record {
  tells = tells;
  held = held old;
  faults = faults old;
  faults_after = faults new;
  misses = misses old;
  misses_after = misses new;
}

-- the sink gained nothing, and no call of it failed
pub record IsUntouched (device : Device) : Type 0 where
  pub faults : device.faults_after ≡ device.faults
  pub written : IsTrue device.tells → device.written_after ≡ device.written

-- the sink gained this text, and no call of it failed
pub record Gains (device : Device) (text : List ℕ) : Type 0 where
  pub faults : device.faults_after ≡ device.faults
  pub written : IsTrue device.tells → device.written_after ≡ device.written ++ text

-- the sink gained a first part of this text
abbrev pub GainsPart : Device → List ℕ → Type 0
GainsPart device text = IsTrue device.tells → AppendsPart device.written device.written_after text

-- the sink gained a line, or, where a write to it failed, a first part of the line
abbrev pub GainsLine : Device → List ℕ → Type 0
GainsLine err line =
    ((err.faults_after ≡ err.faults) × (IsTrue err.tells → err.written_after ≡ err.written ++ line)) ⊎
    (Rose err.faults err.faults_after × (IsTrue err.tells → AppendsPart err.written err.written_after line))
