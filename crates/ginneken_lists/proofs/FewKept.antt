-- How many candidates are kept.
use Rattle.std.proofs.Common.{◌+◌, ◌-◌, ◌<◌, ◌≤◌, inl, inr, List, [], ◌∷◌, length, map, ap, arith}
use Rattle.std.proofs.lemmas.Bool.{cases_Bool}
use Rattle.std.proofs.lemmas.List.{length-append, length-map}
use Rattle.ginneken_lists.specs.Candidates.{Candidate, no_later, serves, unserved, with_one, thinned, joined_with, all_joined}
use Rattle.ginneken_lists.specs.Thinning.{AreRising}
use Rattle.ginneken_lists.specs.Merging.{partners, left_for_next, walk}
use Rattle.ginneken_lists.specs.Offering.{with_all}
use Rattle.ginneken_lists.proofs.Thinned.{with_one-cases}
use Rattle.ginneken_lists.proofs.WalkThins.{walk-joins}

length-unserved : (o : Candidate) (all : List Candidate) → length (unserved o all) ≤ length all
length-unserved o [] = omega arith
length-unserved o (first ∷ rest) =
    let less = length-unserved o rest in
    elim (cases_Bool (serves o.seen first.seen)) [
      | inl is ↦ rw is (omega arith)
      | inr not ↦ rw not (omega arith)
    ]

length-with_one : (o : Candidate) (kept : List Candidate) → length (with_one o kept) ≤ length kept + 1
length-with_one o [] = omega arith
length-with_one o (first ∷ rest) =
    let more = length-with_one o rest in
    let less = length-unserved o (first ∷ rest) in
    with_one-cases (λ os. length os ≤ length (first ∷ rest) + 1) o first rest (λ served. omega arith) (λ free behind. omega arith) (λ free here. omega arith)

length-with_all : (all kept : List Candidate) → length (with_all kept all) ≤ length kept + length all
length-with_all [] kept = omega arith
length-with_all (o ∷ all) kept =
    let one = length-with_one o kept in
    let rest = length-with_all all (with_one o kept) in
    omega arith

pub length-thinned : (all : List Candidate) → length (thinned all) ≤ length all
length-thinned all = let most = length-with_all all [] in omega arith

-- of a branch at most one is both a partner and left for the next
parted : (o : Candidate) (right : List Candidate) → length (partners o right) + length (left_for_next o right) ≤ length right + 1
parted o [] = omega arith
parted o (other ∷ rest) =
    let further = parted o rest in
    elim (cases_Bool (no_later o.seen.time other.seen.time)) [
      | inl is ↦ elim (cases_Bool (no_later other.seen.time o.seen.time)) [
        | inl same ↦ rw (is, same) (omega arith)
        | inr later ↦ rw (is, later) (omega arith)
      ]
      | inr not ↦ rw not (omega arith)
    ]

few-partners : (o : Candidate) (right : List Candidate) → length (partners o right) ≤ length right
few-partners o [] = omega arith
few-partners o (other ∷ rest) =
    let further = few-partners o rest in
    elim (cases_Bool (no_later o.seen.time other.seen.time)) [
      | inl is ↦ rw is (omega arith)
      | inr not ↦ rw not (omega arith)
    ]

length-walk : (left right : List Candidate) → length (walk left right) ≤ length left + length right - 1
length-walk [] right = omega arith
length-walk (o ∷ left) right =
    let row = map (joined_with o) (partners o right) in
    let all = length-append row (walk left (left_for_next o right)) in
    let same = length-map (partners o right) (joined_with o) in
    let parts = parted o right in
    let few = few-partners o right in
    let rest = length-walk left (left_for_next o right) in
    omega arith

pub length-joined : (left right : List Candidate) → AreRising left → AreRising right → 0 < length left →
    length (all_joined left right) + 1 ≤ length left + length right
length-joined left right rising rising_right some =
    let few = length-walk left right in
    let same = ap (λ (os : List Candidate). length os) (walk-joins left right rising rising_right) in
    omega arith
