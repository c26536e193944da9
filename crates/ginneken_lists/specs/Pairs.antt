-- Lists of pairs: candidates whose choices are named by marks.
use Rattle.std.specs.Prelude.{ℕ, ◌<◌, ◌≤◌, ◌^◌, ℤ, pos, ◌+ℤ◌, ◌≤ℤ◌, List, length, map, All, IfSome}
use Rattle.elmore_delay.specs.declared.seen.Seen.{Seen}
use Rattle.ginneken_lists.specs.Candidates.{Chosen, Buffered, Candidate}
use Rattle.ginneken_lists.specs.Thinning.{IsRising}
use Rattle.ginneken_lists.specs.Trails.{chosen_of}
use Rattle.ginneken_lists.specs.declared.pair.Pair.{Pair}

-- what is seen with a pair
abbrev pub seen_of : Pair → Seen
seen_of pair = record { load = pair.load; time = pair.time }

-- the candidate of a pair, whose mark is of a trail
abbrev pub candidate_of : List Chosen → Pair → Candidate
candidate_of trail pair = record { seen = seen_of pair; chosen = chosen_of trail pair.mark }

abbrev pub candidates : List Chosen → List Pair → List Candidate
candidates trail pairs = map (candidate_of trail) pairs

-- the candidate with a buffer of a kind at a node, over what the mark of a pair names, and with what is seen with the pair
abbrev pub buffer_of : List Chosen → (node number : ℕ) → Pair → Candidate
buffer_of trail node number pair =
    record { seen = seen_of pair; chosen = Buffered node number (chosen_of trail pair.mark) }

-- the marks are those of a trail
abbrev pub AreMarked : List Chosen → List Pair → Type 0
AreMarked trail pairs = All (λ pair. pair.mark ≤ length trail) pairs

-- there is a pair, and loads and times rise from each to the next
pub record IsList (pairs : List Pair) : Type 0 where
  pub some : 0 < length pairs
  pub rising : IsRising seen_of pairs

-- a time from -2^110 to 2^110
pub record IsTime (at : ℤ) : Type 0 where
  pub low : pos 0 ≤ℤ (at +ℤ pos (2 ^ 110))
  pub high : at ≤ℤ pos (2 ^ 110)

-- a load of at most 2^60 femtofarads, and a time in range
pub record IsInRange (pair : Pair) : Type 0 where
  pub load : pair.load ≤ 2 ^ 60
  pub time : IfSome pair.time IsTime
