-- What is seen of a sink over memory, and what a write does to it.
use Rattle.std.specs.Prelude.{ℕ, Bool, List, [], ◌-◌, ◌++◌, if◌then◌else◌, length, min, nat_eq, take}
use Rattle.gr_io.specs.Calls.{CallLog, no_calls, next_fails, after_call, with_fault}

-- a sink over memory: what was written, how many bytes it holds at most, how many it takes in a call, its calls
pub record MemoryBytes : Type 0 where
  pub written : List ℕ
  pub room : ℕ
  pub most : ℕ
  pub log : CallLog

-- nothing is written yet
abbrev pub empty_sink : ℕ → ℕ → List ℕ → MemoryBytes
empty_sink room most fails = record { written = []; room = room; most = most; log = no_calls fails }

-- how many of so many bytes the next write takes
abbrev pub taken_of : MemoryBytes → ℕ → ℕ
taken_of sink asked = min asked (min sink.most (sink.room - length sink.written))

-- whether no more bytes fit
abbrev pub is_full : MemoryBytes → Bool
is_full sink = nat_eq (length sink.written) sink.room

-- after a write: where it fails, the bytes are as before; a full room is a fault
abbrev pub after_write : MemoryBytes → List ℕ → MemoryBytes
after_write sink bytes =
    let next = record sink { log = after_call sink.log } in
    if next_fails sink.log
    then next
    else (if is_full sink
    then record next { log = with_fault next.log }
    else record next { written = sink.written ++ take (taken_of sink (length bytes)) bytes })
