-- Pairs as lists store them.
use Rattle.std.specs.Prelude.{◌^◌, ◌-◌, ℤ, pos, List, map, Option, Some, None, if◌then◌else◌}
use Rattle.std.specs.Ordering.{int_eq}
use Rattle.ginneken_lists.specs.Candidates.{Chosen, Candidate}
use Rattle.ginneken_lists.specs.Pairs.{candidate_of}
use Rattle.ginneken_lists.specs.declared.pair.Pair.{Pair}
use Rattle.ginneken_lists.specs.declared.stored.Time.{Time}
use Rattle.ginneken_lists.specs.declared.stored.Stored.{Stored}

-- a time, or none, which is stored as the greatest number
abbrev pub time_of : Time → Option ℤ
time_of time = if int_eq time.at (pos (2 ^ 127 - 1)) then None else Some time.at

abbrev pub pair_of : Stored → Pair
pair_of stored = record { load = stored.load; time = time_of stored.time; mark = stored.mark }

abbrev pub pairs_of : List Stored → List Pair
pairs_of items = map pair_of items

-- the candidate of a stored pair
abbrev pub stored_candidate : List Chosen → Stored → Candidate
stored_candidate trail stored = candidate_of trail (pair_of stored)
