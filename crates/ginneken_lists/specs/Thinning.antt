-- What it is to thin some candidates, in the words of the field.
use Rattle.std.specs.Prelude.{◌≡◌, ◌<◌, false, Bool, ◌&&◌, List, Option, Some, find, All, Contains, IsTrue}
use Rattle.std.specs.List.{AllPairs, list_any}
use Rattle.elmore_delay.specs.declared.seen.Seen.{Seen}
use Rattle.ginneken_lists.specs.Candidates.{Candidate, no_later, serves}

-- a load is smaller than another, and so is the time, so that neither serves as well as the other
pub record Precedes (s other : Seen) : Type 0 where
  pub load : s.load < other.load
  pub time : no_later other.time s.time ≡ false

-- loads and times rise from each to the next
abbrev pub IsRising : {A : Type 0} → (A → Seen) → List A → Type 0
IsRising seen all = AllPairs (λ x y. Precedes (seen x) (seen y)) all

-- some candidates rise
abbrev pub AreRising : List Candidate → Type 0
AreRising all = IsRising (λ o. o.seen) all

-- one of some candidates serves as well as a candidate
abbrev pub is_served : Candidate → List Candidate → Bool
is_served o all = list_any (λ other. serves other.seen o.seen) all

-- two candidates are equal in load and time
abbrev pub is_like : Candidate → Candidate → Bool
is_like o other = serves o.seen other.seen && serves other.seen o.seen

-- of some candidates that are equal to one in load and time the first
abbrev pub first_like : Candidate → List Candidate → Option Candidate
first_like o all = find (is_like o) all

-- those that are kept rise, each is one of all and the first of those that are equal to it, and each of all is served as
-- well by one that is kept
pub record IsThinned (kept all : List Candidate) : Type 0 where
  pub rising : AreRising kept
  pub real : All (Contains all) kept
  pub first : All (λ o. first_like o all ≡ Some o) kept
  pub complete : All (λ o. IsTrue (is_served o kept)) all
