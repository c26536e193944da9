-- Candidates: choices of buffers below a point of a tree, each with the load and the time that are seen there, by van
-- Ginneken's method.
use Rattle.std.specs.Prelude.{ℕ, ◌*◌, ℤ, Bool, true, false, ◌&&◌, not, int_le, nat_le, nat_lt, ◌==◌, List, [], ◌∷◌, ◌++◌, length, map, Option, Some, None, if◌then◌else◌}
use Rattle.std.specs.List.{filter, fold, find, flat_map, filter_map, list_any, range_with_len}
use Rattle.std.specs.Option.{option_map, option_and_then, option_or}
use Rattle.rc_library.specs.Libraries.{LibraryView, kind_of}
use Rattle.rc_library.specs.declared.parts.Kind.{Kind}
use Rattle.rc_library.specs.declared.parts.Wire.{Wire}
use Rattle.elmore_delay.specs.FromLeaves.{less, behind, along, joined}
use Rattle.elmore_delay.specs.declared.seen.Seen.{Seen}

-- what is chosen below a point: no buffer; a buffer of a kind at a node, and what is chosen below it; or what is chosen
-- on two branches
pub data Chosen : Type 0 where
  Nothing : Chosen
  Buffered : (node kind : ℕ) (below : Chosen) → Chosen
  Both : (left right : Chosen) → Chosen

abbrev pub is_nothing : Chosen → Bool
is_nothing Nothing = true
is_nothing (Buffered node kind below) = false
is_nothing (Both left right) = false

-- on two branches, where a branch without buffers adds nothing
abbrev pub both : Chosen → Chosen → Chosen
both left right = if is_nothing left then right else (if is_nothing right then left else Both left right)

-- the number of the kind that is chosen at a node, or none
abbrev pub chosen_at : Chosen → ℕ → Option ℕ
chosen_at Nothing node = None
chosen_at (Buffered at kind below) node = if node == at then Some kind else chosen_at below node
chosen_at (Both left right) node = option_or (chosen_at left node) (chosen_at right node)

-- a choice, with the load and the time that are seen with it
pub record Candidate : Type 0 where
  pub seen : Seen
  pub chosen : Chosen

-- a time isn't later than another, where none is greater than all
abbrev pub no_later : Option ℤ → Option ℤ → Bool
no_later time None = true
no_later None (Some other) = false
no_later (Some time) (Some other) = int_le time other

-- what is seen isn't worse than something else: its load is no greater, and its time is no smaller
abbrev pub serves : Seen → Seen → Bool
serves s other = nat_le s.load other.load && no_later other.time s.time

-- those that a candidate doesn't serve as well as
abbrev pub unserved : Candidate → List Candidate → List Candidate
unserved o all = filter (λ other. not (serves o.seen other.seen)) all

-- one more candidate among those of a list that rises in load and time: it is dropped where one of them serves as well;
-- else it stands behind those of smaller load, and the others that it serves as well as are dropped
abbrev pub with_one : Candidate → List Candidate → List Candidate
with_one o [] = o ∷ []
with_one o (first ∷ rest) =
    if serves first.seen o.seen then first ∷ rest
    else (if nat_lt first.seen.load o.seen.load then first ∷ with_one o rest
    else o ∷ unserved o (first ∷ rest))

-- the candidates without those that another one serves as well as, of equal ones the first, rising in load and time
abbrev pub thinned : List Candidate → List Candidate
thinned all = fold (λ kept o. with_one o kept) [] all

-- a list of one candidate without buffers
abbrev pub leaf : Seen → List Candidate
leaf s = record { seen = s; chosen = Nothing } ∷ []

-- at the upper end of an edge
abbrev pub along_edge : Wire → Candidate → Candidate
along_edge wire o = record { seen = along wire o.seen; chosen = o.chosen }

abbrev pub all_along : Wire → List Candidate → List Candidate
all_along wire all = thinned (map (along_edge wire) all)

-- where two branches meet: each candidate of the one with each of the other
abbrev pub joined_with : Candidate → Candidate → Candidate
joined_with o other = record { seen = joined o.seen other.seen; chosen = both o.chosen other.chosen }

abbrev pub all_joined : List Candidate → List Candidate → List Candidate
all_joined left right = thinned (flat_map (λ o. map (joined_with o) right) left)

-- the time at the input of a driver or a buffer of a resistance that drives what is seen
abbrev pub driven_time : ℕ → Seen → Option ℤ
driven_time r s = less (2 * r * s.load) s.time

-- what is seen is driven better than something else: the time at the input is greater, or it is as great and the load is
-- smaller
abbrev pub drives_better : ℕ → Seen → Seen → Bool
drives_better r s other =
    no_later (driven_time r other) (driven_time r s) &&
    (if no_later (driven_time r s) (driven_time r other) then nat_lt s.load other.load else true)

-- of some candidates the first that none is driven better than; of none there is none
abbrev pub best_driven : ℕ → List Candidate → Option Candidate
best_driven r all = find (λ o. not (list_any (λ other. drives_better r other.seen o.seen) all)) all

-- a buffer of a kind at a node over a candidate
abbrev pub buffered : (node number : ℕ) → Kind → Candidate → Candidate
buffered node number kind o = record { seen = behind (Some kind) o.seen; chosen = Buffered node number o.chosen }

-- with a buffer of a kind at a node over the candidate that the kind drives best
abbrev pub with_buffer : (node number : ℕ) → List Candidate → Kind → Option Candidate
with_buffer node number all kind = option_map (buffered node number kind) (best_driven kind.r all)

-- the same for the kind of a number
abbrev pub with_kind : LibraryView → ℕ → List Candidate → ℕ → Option Candidate
with_kind lib node all number = option_and_then (with_buffer node number all) (kind_of lib number)

-- what is offered at a node where a buffer may stand: one candidate for each kind, in the order of the kinds
abbrev pub offers : LibraryView → ℕ → List Candidate → List Candidate
offers lib node all = filter_map (with_kind lib node all) (range_with_len 0 (length lib.kinds))

abbrev pub with_offers : LibraryView → ℕ → List Candidate → List Candidate
with_offers lib node all = thinned (all ++ offers lib node all)
