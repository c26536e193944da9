-- The least key of a chain, place by place.
use Rattle.std.proofs.Common.{◌≡◌, ℕ, ◌<◌, ◌≤◌, ◌⊎◌, inl, inr, true, false, List, [], ◌∷◌, length, Option, Some, None, IsTrue, slice_get, slice_set, refl, sym, ap, subst, ◌∙◌, arith, min}
use Rattle.std.proofs.lemmas.Bool.{cases_lt, both_ways}
use Rattle.std.proofs.lemmas.Option.{none-some, same_Some, slice_get_within}
use Rattle.gr_base.specs.Trees.{is_among}
use Rattle.maze_route.specs.Buckets.{IsBucket, IsChain, head_at, BeginsChain, IsLeastKey}
use Rattle.maze_route.specs.Spreading.{IsSpreading, IsSpread}
use Rattle.maze_route.specs.declared.slot.Slot.{Slot}
use Rattle.maze_route.proofs.ChainLemmas.{some-and, chain-once, chain-set}
use Rattle.maze_route.proofs.LengthLemmas.{to_go, to-go}
use Rattle.maze_route.proofs.SpreadingLemmas.{chain-long, spread-turn, among-head, among-more, among-split}

pub chain-place : (slots : List Slot) (head : Option ℕ) (place : ℕ) (ps : List ℕ) → head ≡ Some place → IsChain slots head ps → place < length slots
chain-place slots head place [] is chain = absurd (none-some place (sym chain ∙ is))
chain-place slots head place (p ∷ ps) is chain =
    let a = some-and (slice_get slots p) (λ s. IsChain slots s.next ps) chain.1 in
    let same : p ≡ place = same_Some p place (sym chain.0 ∙ is) in
    let h = slice_get_within slots p a.0 a.1.0 in
    omega arith

pub turn-any : (slots : List Slot) (heads heads_after : List (Option ℕ)) (free at : Option ℕ) (last bucket place to : ℕ) (old new : Slot) (pairs : List (ℕ × ℕ)) →
    at ≡ Some place → slice_get slots place ≡ Some old → new.key ≡ old.key → new.cell ≡ old.cell → new.taken ≡ old.taken → new.next ≡ head_at heads to → heads_after ≡ slice_set heads to (Some place) → IsBucket last old.key to → to < 1078 →
    IsSpreading slots heads free at last bucket pairs → IsSpreading (slice_set slots place new) heads_after free old.next last bucket pairs
turn-any slots heads heads_after free at last bucket place to old new pairs is read key cell taken next set of_to to_in so_far =
    let P : Option ℕ → Type 0 = λ o. IsSpreading slots heads free o last bucket pairs in
    spread-turn slots (slice_set slots place new) heads heads_after free last bucket place to old new pairs (subst P is so_far)
    (record { at = read; set = refl; key = key; cell = cell; taken = taken }) of_to to_in next set

pub turn-less : (slots : List Slot) (heads : List (Option ℕ)) (at : Option ℕ) (last place : ℕ) (old new : Slot) → at ≡ Some place → slice_get slots place ≡ Some old →
    IsSpread slots heads at last → to_go (slice_set slots place new) old.next < to_go slots at
turn-less slots heads at last place old new is read so_far =
    let left = so_far.spreading.left in
    let P : Option ℕ → Type 0 = λ o. IsChain slots o left in
    let whole : IsChain slots (Some place) left = subst P is so_far.spreading.left_linked in
    let long = chain-long slots place old left read whole in
    let inside = slice_get_within slots place old read in
    let after = chain-set slots old.next long.rest place new inside (chain-once slots place old long.rest read long.linked) long.linked in
    let one = to-go slots (Some place) left whole in
    let two = to-go (slice_set slots place new) old.next long.rest after in
    let e = ap (λ (o : Option ℕ). to_go slots o) is in
    let f = ap (λ (xs : List ℕ). length xs) long.are in
    omega arith

-- the least key so far, and what is left of the chain
pub record IsLeastSoFar (slots : List Slot) (first : ℕ) (at : Option ℕ) (least : ℕ) : Type 0 where
  pub places : List ℕ
  pub linked : IsChain slots (Some first) places
  pub left : List ℕ
  pub left_linked : IsChain slots at left
  pub left_in : (place : ℕ) → IsTrue (is_among left place) → IsTrue (is_among places place)
  pub least_of : (place : ℕ) (slot : Slot) → IsTrue (is_among places place) → slice_get slots place ≡ Some slot → (least ≤ slot.key) ⊎ IsTrue (is_among left place)
  pub place : ℕ
  pub slot : Slot
  pub among : IsTrue (is_among places place)
  pub read : slice_get slots place ≡ Some slot
  pub key : slot.key ≡ least

pub least-start : (slots : List Slot) (first : ℕ) (slot : Slot) → BeginsChain slots first → slice_get slots first ≡ Some slot → IsLeastSoFar slots first slot.next slot.key
least-start slots first slot begins read =
    let long = chain-long slots first slot begins.places read begins.linked in
    let A : List ℕ → Type 0 = λ xs. IsTrue (is_among xs first) in
    record {
      places = begins.places;
      linked = begins.linked;
      left = long.rest;
      left_linked = long.linked;
      left_in = λ place among. let B : List ℕ → Type 0 = λ xs. IsTrue (is_among xs place) in subst B (sym long.are) (among-more first place long.rest among);
      least_of = λ place other among is.
          let B : List ℕ → Type 0 = λ xs. IsTrue (is_among xs place) in
          elim (among-split first place long.rest (subst B long.are among)) [
            | inl same ↦
                let e : slot ≡ other = same_Some slot other (sym read ∙ ap (λ (n : ℕ). slice_get slots n) same ∙ is) in
                let f = ap (λ (s : Slot). s.key) e in
                inl (omega arith)
            | inr more ↦ inr more
          ];
      place = first;
      slot = slot;
      among = subst A (sym long.are) (among-head first long.rest);
      read = read;
      key = refl;
    }

pub least-turn : (slots : List Slot) (first place : ℕ) (at : Option ℕ) (least next : ℕ) (slot : Slot) → at ≡ Some place → slice_get slots place ≡ Some slot → next ≡ min least slot.key →
    IsLeastSoFar slots first at least → (IsLeastSoFar slots first slot.next next) × (to_go slots slot.next < to_go slots at)
least-turn slots first place at least next slot is read min_is so_far =
    let P : Option ℕ → Type 0 = λ o. IsChain slots o so_far.left in
    let whole : IsChain slots (Some place) so_far.left = subst P is so_far.left_linked in
    let long = chain-long slots place slot so_far.left read whole in
    let one = to-go slots (Some place) so_far.left whole in
    let two = to-go slots slot.next long.rest long.linked in
    let e = ap (λ (o : Option ℕ). to_go slots o) is in
    let f = ap (λ (xs : List ℕ). length xs) long.are in
    let rest_in = λ (other : ℕ) (among : IsTrue (is_among long.rest other)). let B : List ℕ → Type 0 = λ xs. IsTrue (is_among xs other) in so_far.left_in other (subst B (sym long.are) (among-more place other long.rest among)) in
    let rest_of_least = λ (other : ℕ) (s : Slot) (among : IsTrue (is_among so_far.places other)) (at_other : slice_get slots other ≡ Some s).
    let B : List ℕ → Type 0 = λ xs. IsTrue (is_among xs other) in
    let found : (next ≤ s.key) ⊎ IsTrue (is_among long.rest other) = elim (so_far.least_of other s among at_other) [
      | inl low ↦ inl (omega arith)
      | inr in_left ↦ elim (among-split place other long.rest (subst B long.are in_left)) [
        | inl same ↦
            let k : slot ≡ s = same_Some slot s (sym read ∙ ap (λ (n : ℕ). slice_get slots n) same ∙ at_other) in
            let m = ap (λ (t : Slot). t.key) k in
            inl (omega arith)
        | inr more ↦ inr more
      ]
    ] in
    found in
    let in_left : IsTrue (is_among so_far.left place) = let A : List ℕ → Type 0 = λ xs. IsTrue (is_among xs place) in subst A (sym long.are) (among-head place long.rest) in (
      elim (cases_lt slot.key least) [
        | inl less ↦ record {
          places = so_far.places;
          linked = so_far.linked;
          left = long.rest;
          left_linked = long.linked;
          left_in = rest_in;
          least_of = rest_of_least;
          place = place;
          slot = slot;
          among = so_far.left_in place in_left;
          read = read;
          key = omega arith;
        }
        | inr more ↦ record {
          places = so_far.places;
          linked = so_far.linked;
          left = long.rest;
          left_linked = long.linked;
          left_in = rest_in;
          least_of = rest_of_least;
          place = so_far.place;
          slot = so_far.slot;
          among = so_far.among;
          read = so_far.read;
          key = let k = so_far.key in omega arith;
        }
      ],
      omega arith,
    )

abbrev pub no_slot : Slot
no_slot = record { key = 0; cell = 0; next = None; taken = false }

pub chain-empty : (slots : List Slot) (head : Option ℕ) (ps : List ℕ) → head ≡ None → IsChain slots head ps → ps ≡ []
chain-empty slots head [] none chain = refl
chain-empty slots head (p ∷ ps) none chain = absurd (none-some p (sym none ∙ chain.0))

pub least-done : (slots : List Slot) (first : ℕ) (at : Option ℕ) (least : ℕ) → at ≡ None → IsLeastSoFar slots first at least → IsLeastKey slots first least
least-done slots first at least none so_far =
    let empty = chain-empty slots at so_far.left none so_far.left_linked in
    let P : List ℕ → Type 0 = λ xs. (place : ℕ) (slot : Slot) → IsTrue (is_among so_far.places place) → slice_get slots place ≡ Some slot → (least ≤ slot.key) ⊎ IsTrue (is_among xs place) in
    let all = subst P empty so_far.least_of in
    record {
      places = so_far.places;
      linked = so_far.linked;
      least_of = λ place slot among is. elim (all place slot among is) [ inl low ↦ low | inr more ↦ absurd (both_ways true (sym more) refl) ];
      place = so_far.place;
      slot = so_far.slot;
      among = so_far.among;
      at = so_far.read;
      key = so_far.key;
    }
