-- Which entries of a history are whose.
use Rattle.std.specs.Prelude.{◌≡◌, ℕ, ◌+◌, ◌≤◌, Bool, false, ◌==◌, List, [], ◌∷◌, ◌++◌, map, filter, length, Option, Some, None, slice_get}
use Rattle.std.specs.List.{range_with_len}
use Rattle.book_state.specs.Entries.{AtEach}
use Rattle.book_state.specs.declared.entry.Entry.{Entry}
use Rattle.run_histories.specs.declared.hands.HandLog.{HandLog}

abbrev pub is_by : ℕ → Option Entry → Bool
is_by number None = false
is_by number (Some e) = e.number == number

-- the places in a history of the entries of the caller with this number, rising
abbrev pub places_of : List Entry → ℕ → List ℕ
places_of h number = filter (λ p. is_by number (slice_get h p)) (range_with_len 0 (length h))

abbrev pub log_of : List Entry → ℕ → HandLog
log_of h number = record { number = number; places = places_of h number }

-- a log without places, and one with one place more
abbrev pub empty_log : ℕ → HandLog
empty_log number = record { number = number; places = [] }

abbrev pub with_place : HandLog → ℕ → HandLog
with_place log place = record { number = log.number; places = log.places ++ place ∷ [] }

-- the logs part a history among the callers of numbers 0 to the last: each has its caller's places, and every entry is
-- one of theirs
pub record ArePartedTo (last : ℕ) (h : List Entry) (hands : List HandLog) : Type 0 where
  pub logs : hands ≡ map (log_of h) (range_with_len 0 (last + 1))
  pub all : AtEach (λ before e. e.number ≤ last) h
