-- A bucket that is spread over lower ones.
use Rattle.std.proofs.Common.{◌≡◌, ℕ, ◌<◌, ◌⊎◌, inl, inr, true, false, ◌||◌, ◌==◌, List, [], ◌∷◌, length, Option, Some, IsTrue, slice_get, slice_set, if◌then◌else◌, refl, sym, ap, subst, ◌∙◌, arith, length-set}
use Rattle.std.specs.Prelude.{option_and_then}
use Rattle.std.proofs.lemmas.Bool.{cases_eq, cases_Bool, both_ways}
use Rattle.std.proofs.lemmas.Bool.Decides.{nat_tests}
use Rattle.std.proofs.lemmas.Option.{none-some, same_Some, slice_get_within}
use Rattle.gr_base.specs.Trees.{is_among}
use Rattle.maze_route.specs.Buckets.{IsBucket, IsChain, head_at, IsOf, AreFree}
use Rattle.maze_route.specs.declared.slot.Slot.{Slot}
use Rattle.maze_route.proofs.BucketNumbers.{one-bucket}
use Rattle.maze_route.proofs.BucketLemmas.{IsRelink, relink-at, relink-back, relink-of, relink-pairs, chains-with}
use Rattle.maze_route.specs.Spreading.{IsSpreading}
use Rattle.maze_route.proofs.ChainLemmas.{some-and, make-some-and, chain-once, chain-set, or-right}
use Rattle.maze_route.proofs.LabelLemmas.{slice_get-set}

pub among-head : (p : ℕ) (ps : List ℕ) → IsTrue (is_among (p ∷ ps) p)
among-head p ps = let test : (p == p) ≡ true = grind (arith, nat_tests) in ap (λ b. b || is_among ps p) test

pub among-more : (p q : ℕ) (ps : List ℕ) → IsTrue (is_among ps q) → IsTrue (is_among (p ∷ ps) q)
among-more p q ps among = or-right (p == q) (is_among ps q) among

pub among-split : (p q : ℕ) (ps : List ℕ) → IsTrue (is_among (p ∷ ps) q) → (p ≡ q) ⊎ IsTrue (is_among ps q)
among-split p q ps among =
    elim (cases_eq p q) [
      | inl same ↦ inl same
      | inr other ↦ let test : (p == q) ≡ false = grind (arith, nat_tests) in inr (sym (ap (λ b. b || is_among ps q) test) ∙ among)
    ]

pub head-set : (heads : List (Option ℕ)) (b to : ℕ) (new : Option ℕ) → to < length heads → head_at (slice_set heads to new) b ≡ (if b == to then new else head_at heads b)
head-set heads b to new below =
    ap (λ (o : Option (Option ℕ)). option_and_then (λ head. head) o) (slice_get-set heads to b new below) ∙
    elim (cases_Bool (b == to)) [
      | inl same ↦ ap (λ t. option_and_then (λ head. head) (if t then Some new else slice_get heads b)) same ∙ sym (ap (λ t. if t then new else head_at heads b) same)
      | inr other ↦ ap (λ t. option_and_then (λ head. head) (if t then Some new else slice_get heads b)) other ∙ sym (ap (λ t. if t then new else head_at heads b) other)
    ]

-- a chain that begins with a place
pub record IsLong (slots : List Slot) (place : ℕ) (slot : Slot) (places : List ℕ) : Type 0 where
  pub rest : List ℕ
  pub are : places ≡ place ∷ rest
  pub linked : IsChain slots slot.next rest

pub chain-long : (slots : List Slot) (place : ℕ) (slot : Slot) (places : List ℕ) → slice_get slots place ≡ Some slot → IsChain slots (Some place) places → IsLong slots place slot places
chain-long slots place slot [] at chain = absurd (none-some place (sym chain))
chain-long slots place slot (p ∷ ps) at chain =
    let same : place ≡ p = same_Some place p chain.0 in
    let a = some-and (slice_get slots p) (λ s. IsChain slots s.next ps) chain.1 in
    let e : a.0 ≡ slot = same_Some a.0 slot (sym a.1.0 ∙ ap (λ (n : ℕ). slice_get slots n) (sym same) ∙ at) in
    let P : Slot → Type 0 = λ s. IsChain slots s.next ps in
    record { rest = ps; are = ap (λ (n : ℕ). n ∷ ps) (sym same); linked = subst P e a.1.1 }

-- a place that waits isn't free
pub taken-not-free : (slots : List Slot) (free : Option ℕ) (places : List ℕ) (place : ℕ) (slot : Slot) → AreFree slots free places → slice_get slots place ≡ Some slot → slot.taken ≡ true → is_among places place ≡ false
taken-not-free slots free places place slot are at taken =
    elim (cases_Bool (is_among places place)) [
      | inl among ↦
          let found = some-and (slice_get slots place) (λ s. s.taken ≡ false) (are.only place among) in
          let e : found.0 ≡ slot = same_Some found.0 slot (sym found.1.0 ∙ at) in
          absurd (both_ways true (sym (ap (λ (s : Slot). s.taken) e ∙ taken) ∙ found.1.1) refl)
      | inr isnt ↦ isnt
    ]

relink-free : (slots after : List Slot) (free : Option ℕ) (places : List ℕ) (place : ℕ) (old new : Slot) → IsRelink slots after place old new → old.taken ≡ true → AreFree slots free places → AreFree after free places
relink-free slots after free places place old new re taken are =
    let below = slice_get_within slots place old re.at in
    let P : List Slot → Type 0 = λ xs. IsChain xs free places in
    record {
      linked = subst P (sym re.set) (chain-set slots free places place new below (taken-not-free slots free places place old are re.at taken) are.linked);
      only = λ other among.
          let found = some-and (slice_get slots other) (λ s. s.taken ≡ false) (are.only other among) in
          let now = relink-at slots after place other old new found.0 re found.1.0 in
          make-some-and (slice_get after other) (λ s. s.taken ≡ false) now.0 now.1.0 (now.1.1.1 ∙ found.1.1);
    }

linked-with : (slots after : List Slot) (heads heads_after : List (Option ℕ)) (chains : ℕ → List ℕ) (to place : ℕ) (old new : Slot) → IsRelink slots after place old new →
    to < length heads → heads_after ≡ slice_set heads to (Some place) → new.next ≡ head_at heads to → ((b : ℕ) → b < 1078 → is_among (chains b) place ≡ false) →
    ((b : ℕ) → b < 1078 → IsChain slots (head_at heads b) (chains b)) → (b : ℕ) → b < 1078 → IsChain after (head_at heads_after b) (chains-with chains to place b)
linked-with slots after heads heads_after chains to place old new re to_in set next apart linked b below =
    let inside = slice_get_within slots place old re.at in
    let C : List Slot → Type 0 = λ xs. IsChain xs (head_at heads b) (chains b) in
    let kept : IsChain after (head_at heads b) (chains b) = subst C (sym re.set) (chain-set slots (head_at heads b) (chains b) place new inside (apart b below) (linked b below)) in
    let head = ap (λ (hs : List (Option ℕ)). head_at hs b) set ∙ head-set heads b to (Some place) to_in in
    elim (cases_eq b to) [
      | inl same ↦
          let test : (b == to) ≡ true = grind (arith, nat_tests) in
          let own : (place == place) ≡ true = grind (arith, nat_tests) in
          let at : slice_get after place ≡ Some new = ap (λ (xs : List Slot). slice_get xs place) re.set ∙ slice_get-set slots place place new inside ∙ ap (λ t. if t then Some new else slice_get slots place) own in
          let link : new.next ≡ head_at heads b = next ∙ ap (λ (n : ℕ). head_at heads n) (sym same) in
          let N : Option ℕ → Type 0 = λ h. IsChain after h (chains b) in
          let whole : IsChain after (Some place) (place ∷ chains b) = (refl, make-some-and (slice_get after place) (λ s. IsChain after s.next (chains b)) new at (subst N (sym link) kept)) in
          let H : Option ℕ → Type 0 = λ h. IsChain after h (place ∷ chains b) in
          let L : List ℕ → Type 0 = λ xs. IsChain after (head_at heads_after b) xs in
          subst L (sym (ap (λ t. if t then place ∷ chains b else chains b) test)) (subst H (sym (head ∙ ap (λ t. if t then Some place else head_at heads b) test)) whole)
      | inr other ↦
          let test : (b == to) ≡ false = grind (arith, nat_tests) in
          let H : Option ℕ → Type 0 = λ h. IsChain after h (chains b) in
          let L : List ℕ → Type 0 = λ xs. IsChain after (head_at heads_after b) xs in
          subst L (sym (ap (λ t. if t then place ∷ chains b else chains b) test)) (subst H (sym (head ∙ ap (λ t. if t then Some place else head_at heads b) test)) kept)
    ]

pub with-cases : (chains : ℕ → List ℕ) (to place b q : ℕ) → IsTrue (is_among (chains-with chains to place b) q) → ((b ≡ to) × (place ≡ q)) ⊎ IsTrue (is_among (chains b) q)
with-cases chains to place b q among =
    elim (cases_eq b to) [
      | inl same ↦
          let test : (b == to) ≡ true = grind (arith, nat_tests) in
          let P : List ℕ → Type 0 = λ xs. IsTrue (is_among xs q) in
          elim (among-split place q (chains b) (subst P (ap (λ t. if t then place ∷ chains b else chains b) test) among)) [
            | inl is ↦ inl (same, is)
            | inr more ↦ inr more
          ]
      | inr other ↦
          let test : (b == to) ≡ false = grind (arith, nat_tests) in
          let P : List ℕ → Type 0 = λ xs. IsTrue (is_among xs q) in
          inr (subst P (ap (λ t. if t then place ∷ chains b else chains b) test) among)
    ]

pub with-more : (chains : ℕ → List ℕ) (to place b q : ℕ) → IsTrue (is_among (chains b) q) → IsTrue (is_among (chains-with chains to place b) q)
with-more chains to place b q among =
    elim (cases_Bool (b == to)) [
      | inl test ↦ ap (λ t. is_among (if t then place ∷ chains b else chains b) q) test ∙ among-more place q (chains b) among
      | inr test ↦ ap (λ t. is_among (if t then place ∷ chains b else chains b) q) test ∙ among
    ]

pub with-new : (chains : ℕ → List ℕ) (to place : ℕ) → IsTrue (is_among (chains-with chains to place to) place)
with-new chains to place =
    let test : (to == to) ≡ true = grind (arith, nat_tests) in
    ap (λ t. is_among (if t then place ∷ chains to else chains to) place) test ∙ among-head place (chains to)

-- one place goes to its bucket
pub spread-turn : (slots after : List Slot) (heads heads_after : List (Option ℕ)) (free : Option ℕ) (last bucket place to : ℕ) (old new : Slot) (pairs : List (ℕ × ℕ)) →
    IsSpreading slots heads free (Some place) last bucket pairs → IsRelink slots after place old new → IsBucket last old.key to → to < 1078 →
    new.next ≡ head_at heads to → heads_after ≡ slice_set heads to (Some place) → IsSpreading after heads_after free old.next last bucket pairs
spread-turn slots after heads heads_after free last bucket place to old new pairs so_far re of_to to_in next set =
    let long = chain-long slots place old so_far.left re.at so_far.left_linked in
    let rest = long.rest in
    let inside = slice_get_within slots place old re.at in
    let A : List ℕ → Type 0 = λ xs. (q : ℕ) → IsTrue (is_among xs q) → IsTrue (is_among so_far.left q) in
    let among_left : (q : ℕ) → IsTrue (is_among (place ∷ rest) q) → IsTrue (is_among so_far.left q) = subst A long.are (λ q among. among) in
    let mine = among_left place (among-head place rest) in
    let own = so_far.left_only place mine in
    let of = own.1.1 in
    let slot_is : of.slot ≡ old = same_Some of.slot old (sym of.at ∙ re.at) in
    let taken : old.taken ≡ true = sym (ap (λ (s : Slot). s.taken) slot_is) ∙ of.taken in
    let B : Slot → Type 0 = λ s. IsBucket last s.key own.0 in
    let same_bucket : own.0 ≡ to = one-bucket last old.key own.0 to (subst B slot_is of.of_bucket) of_to in
    let O : ℕ → Type 0 = λ b. IsOf after last b place in
    let now_of : IsOf after last to place = subst O same_bucket (relink-of slots after place place last own.0 old new re of) in
    let once = chain-once slots place old rest re.at long.linked in
    let C : List Slot → Type 0 = λ xs. IsChain xs old.next rest in
    record {
      size = ap (λ (hs : List (Option ℕ)). length hs) set ∙ length-set heads to (Some place) ∙ so_far.size;
      left = rest;
      chains = chains-with so_far.chains to place;
      left_linked = subst C (sym re.set) (chain-set slots old.next rest place new inside once long.linked);
      left_only = λ q among.
          let found = so_far.left_only q (among_left q (among-more place q rest among)) in
          (found.0, (found.1.0, relink-of slots after place q last found.0 old new re found.1.1));
      linked = linked-with slots after heads heads_after so_far.chains to place old new re (let h = so_far.size in omega arith) set next (λ b below. so_far.apart b place below mine) so_far.linked;
      only = λ b q below among.
          elim (with-cases so_far.chains to place b q among) [
            | inl is ↦
                let Q : ℕ → Type 0 = λ n. IsOf after last n q in
                let R : ℕ → Type 0 = λ n. IsOf after last to n in
                subst Q (sym (is.0)) (subst R (is.1) now_of)
            | inr more ↦ relink-of slots after place q last b old new re (so_far.only b q below more)
          ];
      apart = λ b q below among.
          let old_apart = so_far.apart b q below (among_left q (among-more place q rest among)) in
          elim (cases_Bool (is_among (chains-with so_far.chains to place b) q)) [
            | inl bad ↦ elim (with-cases so_far.chains to place b q bad) [
              | inl is ↦ absurd (both_ways true (sym (ap (λ (n : ℕ). is_among rest n) (is.1) ∙ among) ∙ once) refl)
              | inr more ↦ absurd (both_ways true (sym more ∙ old_apart) refl)
            ]
            | inr good ↦ good
          ];
      all = λ q slot at is_taken.
          let before = relink-back slots after place q old new slot re at in
          elim (so_far.all q before.0 before.1.0 (before.1.1.1 ∙ is_taken)) [
            | inl in_left ↦
                let L : List ℕ → Type 0 = λ xs. IsTrue (is_among xs q) in
                elim (among-split place q rest (subst L long.are in_left)) [
                  | inl is ↦
                      let R : ℕ → Type 0 = λ n. (IsOf after last to n) × IsTrue (is_among (chains-with so_far.chains to place to) n) in
                      let whole = subst R is (now_of, with-new so_far.chains to place) in
                      inr (to, (to_in, whole))
                  | inr more ↦ inl more
                ]
            | inr found ↦ inr (found.0, (found.1.0, (relink-of slots after place q last found.0 old new re (found.1.1.0), with-more so_far.chains to place found.0 q (found.1.1.1))))
          ];
      free_places = so_far.free_places;
      are_free = relink-free slots after free so_far.free_places place old new re taken so_far.are_free;
      same_pairs = relink-pairs slots after place old new re ∙ so_far.same_pairs;
    }
