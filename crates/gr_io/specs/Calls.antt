-- The calls of a device over memory: how many there were, which are to fail, and how many failed.
use Rattle.std.specs.Prelude.{ℕ, Bool, List, ◌==◌, if◌then◌else◌}
use Rattle.std.specs.List.{list_any}
use Rattle.gr_io.specs.Counts.{one_more}

-- how many calls a device has had, which of them are to fail, and how many have failed
pub record CallLog : Type 0 where
  pub fails : List ℕ
  pub calls : ℕ
  pub faults : ℕ

-- no call yet
abbrev pub no_calls : List ℕ → CallLog
no_calls fails = record { fails = fails; calls = 0; faults = 0 }

-- whether the next call is to fail; calls are counted from 1
abbrev pub next_fails : CallLog → Bool
next_fails log = list_any (λ n. n == one_more log.calls) log.fails

-- one fault more
abbrev pub with_fault : CallLog → CallLog
with_fault log = record log { faults = one_more log.faults }

-- after one more call, which has failed where it was to fail
abbrev pub after_call : CallLog → CallLog
after_call log =
    let next = record log { calls = one_more log.calls } in
    if next_fails log then with_fault next else next
