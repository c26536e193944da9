-- Buffers over stored pairs, one for each kind in the order of the kinds.
use Rattle.std.specs.Prelude.{ℕ, ◌+◌, not, nat_lt, List, [], ◌∷◌, Option, Some, None, if◌then◌else◌}
use Rattle.std.specs.List.{fold, filter}
use Rattle.elmore_delay.specs.declared.seen.Seen.{Seen}
use Rattle.ginneken_lists.specs.Candidates.{Chosen, Candidate, serves, with_one}
use Rattle.ginneken_lists.specs.Pairs.{seen_of, buffer_of}
use Rattle.ginneken_lists.specs.StoredPairs.{pair_of}
use Rattle.ginneken_lists.specs.declared.stored.Stored.{Stored}

-- one more candidate after another
abbrev pub with_all : List Candidate → List Candidate → List Candidate
with_all kept all = fold (λ before o. with_one o before) kept all

-- the candidate with a buffer of a kind at a node over what the mark of a stored pair names
abbrev pub buffer_over : List Chosen → (node number : ℕ) → Stored → Candidate
buffer_over trail node number stored = buffer_of trail node number (pair_of stored)

-- the candidates of pairs with these buffers, of the kinds from a number on
abbrev pub offered : List Chosen → (node number : ℕ) → List Stored → List Candidate
offered trail node number [] = []
offered trail node number (stored ∷ rest) = buffer_over trail node number stored ∷ offered trail node (number + 1) rest

-- the place of something that is seen among pairs, behind those of smaller load, where none of these and the next serves as
-- well; the places are counted from a number on
abbrev pub place_of : Seen → (from : ℕ) → List Stored → Option ℕ
place_of s from [] = Some from
place_of s from (stored ∷ rest) =
    if serves (seen_of (pair_of stored)) s then None
    else (if nat_lt stored.load s.load then place_of s (from + 1) rest else Some from)

-- the pairs that a pair doesn't serve as well as
abbrev pub without_served : Stored → List Stored → List Stored
without_served stored items = filter (λ other. not (serves (seen_of (pair_of stored)) (seen_of (pair_of other)))) items
