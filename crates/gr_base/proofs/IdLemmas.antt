-- The places of ids, of which the first are 0, 1, 2 and so on.
use Rattle.std.proofs.Common.{◌≡◌, ℕ, ◌+◌, ◌<◌, ◌≤◌, inl, inr, false, ◌==◌, nat_eq, List, [], ◌∷◌, ◌++◌, length, option_map, Some, None, refl, ap, ◌∙◌, arith, zero, suc}
use Rattle.std.specs.List.{position_from, range_with_len, list_any}
use Rattle.std.proofs.lemmas.Bool.{cases_Bool}

-- an id below the count of the first ones is its own place
pub place-counted : (from count id : ℕ) (others : List ℕ) → from ≤ id → id < from + count →
    position_from (nat_eq id) from (range_with_len from count ++ others) ≡ Some id
place-counted from zero id others low high = absurd (omega (arith, low, high))
place-counted from (suc count) id others low high =
    elim (cases_Bool (id == from)) [
      | inl same ↦ rw same (ap Some (grind (arith, same)))
      | inr other ↦ rw other (place-counted (from + 1) count id others (grind (arith, other, low)) (omega (arith, high)))
    ]

-- another id's place is looked for among the others
pub place-others : (from count id : ℕ) (others : List ℕ) → from + count ≤ id →
    position_from (nat_eq id) from (range_with_len from count ++ others) ≡ position_from (nat_eq id) (from + count) others
place-others from zero id others low = ap (λ n. position_from (nat_eq id) n others) (omega arith)
place-others from (suc count) id others low =
    let other : (id == from) ≡ false = grind (arith, low) in
    rw other (place-others (from + 1) count id others (omega (arith, low))
    ∙ ap (λ n. position_from (nat_eq id) n others) (omega arith))

-- a place in a list that begins later
pub place-later : (from later id place : ℕ) (others : List ℕ) → position_from (nat_eq id) from others ≡ Some place →
    position_from (nat_eq id) (later + from) others ≡ Some (later + place)
place-later from later id place [] found = cc
place-later from later id place (other ∷ others) found =
    elim (cases_Bool (id == other)) [
      | inl same ↦ let here = rw same at found in rw same (ap (option_map (λ n. later + n)) here)
      | inr differs ↦
          let there = rw differs at found in
          rw differs (ap (λ n. position_from (nat_eq id) n others) (omega arith)
          ∙ place-later (from + 1) later id place others there)
    ]

pub place-nowhere : (from later id : ℕ) (others : List ℕ) → position_from (nat_eq id) from others ≡ None →
    position_from (nat_eq id) later others ≡ None
place-nowhere from later id [] none = refl
place-nowhere from later id (other ∷ others) none =
    elim (cases_Bool (id == other)) [
      | inl same ↦ let here = rw same at none in cc
      | inr differs ↦ let there = rw differs at none in rw differs (place-nowhere (from + 1) (later + 1) id others there)
    ]

-- one more of the first ones
pub counted-one-more : (from count : ℕ) → range_with_len from (suc count) ≡ range_with_len from count ++ (from + count) ∷ []
counted-one-more from zero = ap (λ (n : ℕ). n ∷ []) (omega arith)
counted-one-more from (suc count) =
    ap (λ (ns : List ℕ). from ∷ ns) (counted-one-more (from + 1) count
    ∙ ap (λ (n : ℕ). range_with_len (from + 1) count ++ n ∷ []) (omega arith))

pub length-ids : (from count : ℕ) (others : List ℕ) → length (range_with_len from count ++ others) ≡ count + length others
length-ids from zero others = omega arith
length-ids from (suc count) others = let e = length-ids (from + 1) count others in omega (arith, e)

-- an id without a place is none of the ids
pub absent-nowhere : (from id : ℕ) (ids : List ℕ) → position_from (nat_eq id) from ids ≡ None → list_any (nat_eq id) ids ≡ false
absent-nowhere from id [] none = refl
absent-nowhere from id (other ∷ ids) none =
    elim (cases_Bool (id == other)) [
      | inl same ↦ let here = rw same at none in cc
      | inr differs ↦ let there = rw differs at none in rw differs (absent-nowhere (from + 1) id ids there)
    ]

-- nor is it one of those behind the first ones
pub absent-others : (from count id : ℕ) (others : List ℕ) → position_from (nat_eq id) from (range_with_len from count ++ others) ≡ None →
    list_any (nat_eq id) others ≡ false
absent-others from zero id others none = absent-nowhere from id others none
absent-others from (suc count) id others none =
    elim (cases_Bool (id == from)) [
      | inl same ↦ let here = rw same at none in cc
      | inr differs ↦ let there = rw differs at none in absent-others (from + 1) count id others there
    ]
