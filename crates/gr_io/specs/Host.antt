-- What is seen of a shelf of files, and of a sink over a stream.
use Rattle.std.specs.Prelude.{ℕ, Bool, true, false, List, Option, None}
use Rattle.gr_io.specs.Slots.{set_slot}
use Rattle.gr_io.specs.declared.shelf.Slot.{Slot}
use Rattle.gr_io.specs.declared.slots.Slots.{Slots}

-- a shelf of files: at which slots one is open, the bytes that each has left, where they are known, and its two counts
pub record HostFiles : Type 0 where
  pub opened : Slots Bool
  pub left : Slots (Option (List ℕ))
  pub faults : ℕ
  pub misses : ℕ

-- no file is open
abbrev pub no_files : HostFiles
no_files = record {
  opened = record { design = false; library = false; solution = false };
  left = record { design = None; library = None; solution = None };
  faults = 0;
  misses = 0;
}

-- a file with these bytes left is open at the slot
abbrev pub with_file : HostFiles → Slot → Option (List ℕ) → HostFiles
with_file files slot left =
    record files { opened = set_slot files.opened slot true; left = set_slot files.left slot left }

-- a sink over a stream: the bytes that the stream holds, where they are known, and the count of faults
pub record HostStream : Type 0 where
  pub contents : Option (List ℕ)
  pub faults : ℕ

-- no call has failed yet
abbrev pub fresh_stream : Option (List ℕ) → HostStream
fresh_stream contents = record { contents = contents; faults = 0 }
