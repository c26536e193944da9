-- Why a command stopped: its status, and what is told of it.
use Rattle.std.specs.Prelude.{◌≡◌, ℕ, ◌⊎◌, List, [], Result, Ok, Err}
use Rattle.gr_io.specs.Devices.{Device, IsUntouched, GainsLine}
use Rattle.gr_io.specs.declared.shelf.Slot.{Slot}
use Rattle.gr_io.specs.declared.shelf.Slot.TheVariants.{Design, Library, Solution}
use Rattle.word_reader.specs.declared.program.Program.{Program}
use Rattle.command_form.specs.Lines.{fault_line, memory_line, net_line, read_line, usage_line}
use Rattle.command_form.specs.declared.stop.Outcome.{Outcome}
use Rattle.command_form.specs.declared.stop.Outcome.TheVariants.{Whole, Open}
use Rattle.command_form.specs.declared.stop.Stop.{Stop}
use Rattle.command_form.specs.declared.stop.Stop.TheVariants.{Usage, Fault, NotTree, ReadFailed, WriteFailed, NoMemory}

-- the status of a command that was done: another one where a net isn't joined
abbrev pub status_done : Outcome → ℕ
status_done Whole = 0
status_done Open = 1

-- the status of a command that stopped at a text's fault
abbrev pub status_at : Slot → ℕ
status_at Design = 3
status_at Library = 4
status_at Solution = 5

-- the status of a command that stopped
abbrev pub status_of : Stop → ℕ
status_of Usage = 2
status_of (Fault text number token) = status_at text
status_of (NotTree id) = 5
status_of ReadFailed = 6
status_of WriteFailed = 7
status_of NoMemory = 8

-- the stop at a fault of a text, by the numbers of the text's faults
abbrev pub fault_of : {F : Type 0} → Slot → (F → ℕ) → F → ℕ → Stop
fault_of text number_of fault token = Fault text (number_of fault) token

-- what is told of it on err
abbrev pub told_line : Program → Stop → List ℕ
told_line program Usage = usage_line program
told_line program (Fault text number token) = fault_line program text number token
told_line program (NotTree id) = net_line program id
told_line program ReadFailed = read_line program
told_line program WriteFailed = []
told_line program NoMemory = memory_line program

-- a line that was made is told of a stop; where memory was wanting for it, that is told
abbrev pub TellsLine : {E : Type 0} → Program → Device → Result (List ℕ) E → Stop → Stop → Type 0
TellsLine program err (Ok line) stop told = (told ≡ stop) × GainsLine err line
TellsLine program err (Err refused) stop told = (told ≡ NoMemory) × GainsLine err (memory_line program)

-- err is told the line of a stop, or, where memory is wanting for the line, that
abbrev pub IsToldOrNot : Program → Device → Stop → Stop → Type 0
IsToldOrNot program err stop told =
    ((told ≡ stop) × GainsLine err (told_line program stop)) ⊎ ((told ≡ NoMemory) × GainsLine err (memory_line program))

-- err is told why a command stopped; a write that failed isn't told
abbrev pub IsTold : Program → Device → Stop → Stop → Type 0
IsTold program err WriteFailed told = (told ≡ WriteFailed) × IsUntouched err
IsTold program err (Fault text number token) told = IsToldOrNot program err (Fault text number token) told
IsTold program err (NotTree id) told = IsToldOrNot program err (NotTree id) told
IsTold program err stop told = (told ≡ stop) × GainsLine err (told_line program stop)

-- the status of a program's command, whose stop is told on err
abbrev pub Finishes : Program → (err : Device) → Result Outcome Stop → ℕ → Type 0
Finishes program err (Ok outcome) status = (status ≡ status_done outcome) × IsUntouched err
Finishes program err (Err stop) status = (told : Stop) × IsTold program err stop told × (status ≡ status_of told)
