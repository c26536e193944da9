-- The joined candidates of two branches, by going along both.
use Rattle.std.specs.Prelude.{List, [], ◌∷◌, ◌++◌, map, if◌then◌else◌}
use Rattle.ginneken_lists.specs.Candidates.{Candidate, no_later, joined_with}

-- those of a branch with which a candidate is joined: up to the first whose time isn't lesser
abbrev pub partners : Candidate → List Candidate → List Candidate
partners o [] = []
partners o (other ∷ rest) = if no_later o.seen.time other.seen.time then other ∷ [] else other ∷ partners o rest

-- those of a branch that are left for the next candidate: from the first whose time is greater on
abbrev pub left_for_next : Candidate → List Candidate → List Candidate
left_for_next o [] = []
left_for_next o (other ∷ rest) =
    if no_later o.seen.time other.seen.time
    then (if no_later other.seen.time o.seen.time then rest else other ∷ rest)
    else left_for_next o rest

-- each candidate of a branch, joined with its partners among those that are left of the other branch
abbrev pub walk : List Candidate → List Candidate → List Candidate
walk [] right = []
walk (o ∷ left) right = map (joined_with o) (partners o right) ++ walk left (left_for_next o right)
