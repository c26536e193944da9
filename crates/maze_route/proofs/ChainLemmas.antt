-- Chains of places.
use Rattle.std.proofs.Common.{◌≡◌, ℕ, zero, suc, ◌+◌, ◌<◌, ◌≤◌, inl, inr, Bool, true, false, ◌||◌, ◌==◌, List, [], ◌∷◌, length, drop, get_or, Option, Some, None, IsSomeAnd, IsTrue, slice_get, slice_set, if◌then◌else◌, refl, sym, ap, subst, ◌∙◌, arith}
use Rattle.std.specs.List.{IsDistinct}
use Rattle.std.proofs.lemmas.Bool.{cases_eq, cases_Bool, both_ways, eqb-true}
use Rattle.std.proofs.lemmas.Bool.Decides.{nat_tests, Decides-eqb}
use Rattle.std.proofs.lemmas.Option.{none-some, same_Some, slice_get_within}
use Rattle.std.proofs.lemmas.List.Folds.{Any-from_list_any}
use Rattle.std.proofs.lemmas.Map.Made.{IsDistinct-from_AllPairs}
use Rattle.std.proofs.lemmas.Map.Steps.{length-le_from_distinct_below}
use Rattle.gr_base.specs.Trees.{is_among}
use Rattle.maze_route.specs.Buckets.{IsChain}
use Rattle.maze_route.specs.declared.slot.Slot.{Slot}
use Rattle.maze_route.proofs.LabelLemmas.{slice_get-set}

pub some-and : (o : Option Slot) (P : Slot → Type 0) → IsSomeAnd o P → (s : Slot) × ((o ≡ Some s) × P s)
some-and None P h = absurd h
some-and (Some s) P h = (s, (refl, h))

pub make-some-and : (o : Option Slot) (P : Slot → Type 0) (s : Slot) → o ≡ Some s → P s → IsSomeAnd o P
make-some-and o P s is h = let Q : Option Slot → Type 0 = λ q. IsSomeAnd q P in subst Q (sym is) h

pub or-right : (a b : Bool) → b ≡ true → (a || b) ≡ true
or-right true b is = refl
or-right false b is = is

pub or-none : (a b : Bool) → (a || b) ≡ false → (a ≡ false) × (b ≡ false)
or-none true b is = absurd (both_ways true is refl)
or-none false b is = (refl, is)

among-place : (ps : List ℕ) (q : ℕ) → IsTrue (is_among ps q) → (k : ℕ) × (k < length ps) × (get_or ps k q ≡ q)
among-place [] q among = absurd (both_ways true (sym among) refl)
among-place (p ∷ ps) q among =
    elim (cases_eq p q) [
      | inl same ↦ (0, omega arith, same)
      | inr other ↦
          let test : (p == q) ≡ false = grind (arith, nat_tests) in
          let rest = among-place ps q (sym (ap (λ b. b || is_among ps q) test) ∙ among) in
          (suc rest.0, let h = rest.1 in omega arith, rest.2)
    ]

-- a chain has one list of places
pub chain-same : (slots : List Slot) (head : Option ℕ) (ps qs : List ℕ) → IsChain slots head ps → IsChain slots head qs → ps ≡ qs
chain-same slots head [] [] one two = refl
chain-same slots head [] (q ∷ qs) one two = absurd (none-some q (sym one ∙ two.0))
chain-same slots head (p ∷ ps) [] one two = absurd (none-some p (sym two ∙ one.0))
chain-same slots head (p ∷ ps) (q ∷ qs) one two =
    let same : p ≡ q = same_Some p q (sym one.0 ∙ two.0) in
    let a = some-and (slice_get slots p) (λ s. IsChain slots s.next ps) one.1 in
    let b = some-and (slice_get slots q) (λ s. IsChain slots s.next qs) two.1 in
    let slot : a.0 ≡ b.0 = same_Some a.0 b.0 (sym a.1.0 ∙ ap (λ (n : ℕ). slice_get slots n) same ∙ b.1.0) in
    let P : Slot → Type 0 = λ s. IsChain slots s.next ps in
    let rest = chain-same slots b.0.next ps qs (subst P slot a.1.1) b.1.1 in
    ap (λ (n : ℕ). n ∷ ps) same ∙ ap (λ (xs : List ℕ). q ∷ xs) rest

-- the rest of a chain
chain-from : (slots : List Slot) (head : Option ℕ) (ps : List ℕ) (k d : ℕ) → IsChain slots head ps → k < length ps → IsChain slots (Some (get_or ps k d)) (drop k ps)
chain-from slots head [] k d chain below = absurd (omega arith)
chain-from slots head (p ∷ ps) zero d chain below = let P : Option ℕ → Type 0 = λ h. IsChain slots h (p ∷ ps) in subst P chain.0 chain
chain-from slots head (p ∷ ps) (suc k) d chain below =
    let a = some-and (slice_get slots p) (λ s. IsChain slots s.next ps) chain.1 in
    chain-from slots a.0.next ps k d a.1.1 (omega arith)

length-drop-le : (ps : List ℕ) (k : ℕ) → k ≤ length ps → length (drop k ps) + k ≡ length ps
length-drop-le ps zero le = omega arith
length-drop-le [] (suc k) le = absurd (omega arith)
length-drop-le (p ∷ ps) (suc k) le = let h = length-drop-le ps k (omega arith) in omega arith

chain-within : (slots : List Slot) (head : Option ℕ) (ps : List ℕ) (p : ℕ) → IsChain slots head ps → IsTrue (is_among ps p) → p < length slots
chain-within slots head [] p chain among = absurd (both_ways true (sym among) refl)
chain-within slots head (q ∷ ps) p chain among =
    let a = some-and (slice_get slots q) (λ s. IsChain slots s.next ps) chain.1 in
    elim (cases_eq q p) [
      | inl same ↦ let h = slice_get_within slots q a.0 a.1.0 in omega arith
      | inr other ↦
          let test : (q == p) ≡ false = grind (arith, nat_tests) in
          chain-within slots a.0.next ps p a.1.1 (sym (ap (λ b. b || is_among ps p) test) ∙ among)
    ]

chain-distinct : (slots : List Slot) (head : Option ℕ) (ps : List ℕ) → IsChain slots head ps → IsDistinct (λ a b. a == b) ps
chain-distinct slots head ps chain =
    IsDistinct-from_AllPairs Decides-eqb ps (λ i j d before within same.
    let one = chain-from slots head ps i d chain (omega arith) in
    let two = chain-from slots head ps j d chain within in
    let P : ℕ → Type 0 = λ n. IsChain slots (Some n) (drop j ps) in
    let equal = chain-same slots (Some (get_or ps i d)) (drop i ps) (drop j ps) one (subst P (sym same) two) in
    let a = length-drop-le ps i (omega arith) in
    let b = length-drop-le ps j (omega arith) in
    let e = ap (λ (xs : List ℕ). length xs) equal in
    absurd (omega arith))

among-any : (ps : List ℕ) (q k d : ℕ) → k < length ps → get_or ps k d ≡ q → IsTrue (is_among ps q)
among-any [] q k d below is = absurd (omega arith)
among-any (p ∷ ps) q zero d below is = let test : (p == q) ≡ true = grind (arith, nat_tests) in ap (λ b. b || is_among ps q) test
among-any (p ∷ ps) q (suc k) d below is = or-right (p == q) (is_among ps q) (among-any ps q k d (omega arith) is)

-- a chain is no longer than the slots
pub chain-short : (slots : List Slot) (head : Option ℕ) (ps : List ℕ) → IsChain slots head ps → length ps ≤ length slots
chain-short slots head ps chain =
    length-le_from_distinct_below ps (length slots) (chain-distinct slots head ps chain) (λ q is.
    let any = Any-from_list_any (λ x. q == x) ps is in
    let same : q ≡ any.1 = eqb-true q any.1 any.4 in
    chain-within slots head ps q chain (among-any ps q any.0 any.1 any.2 (any.3 ∙ sym same)))

-- the first place of a chain isn't in its rest
pub chain-once : (slots : List Slot) (p : ℕ) (slot : Slot) (ps : List ℕ) → slice_get slots p ≡ Some slot → IsChain slots slot.next ps → is_among ps p ≡ false
chain-once slots p slot ps at chain =
    elim (cases_Bool (is_among ps p)) [
      | inl among ↦
          let place = among-place ps p among in
          let whole : IsChain slots (Some p) (p ∷ ps) = (refl, make-some-and (slice_get slots p) (λ s. IsChain slots s.next ps) slot at chain) in
          let tail = chain-from slots slot.next ps place.0 p chain place.1 in
          let P : ℕ → Type 0 = λ n. IsChain slots (Some n) (drop place.0 ps) in
          let equal = chain-same slots (Some p) (p ∷ ps) (drop place.0 ps) whole (subst P place.2 tail) in
          let a = length-drop-le ps place.0 (let h = place.1 in omega arith) in
          let e = ap (λ (xs : List ℕ). length xs) equal in
          absurd (omega arith)
      | inr isnt ↦ isnt
    ]

-- a slot that isn't on a chain can be changed
pub chain-set : (slots : List Slot) (head : Option ℕ) (ps : List ℕ) (p : ℕ) (new : Slot) → p < length slots → is_among ps p ≡ false → IsChain slots head ps → IsChain (slice_set slots p new) head ps
chain-set slots head [] p new below isnt chain = chain
chain-set slots head (q ∷ ps) p new below isnt chain =
    let a = some-and (slice_get slots q) (λ s. IsChain slots s.next ps) chain.1 in
    let parts = or-none (q == p) (is_among ps p) isnt in
    let other : (q == p) ≡ false = parts.0 in
    let at : slice_get (slice_set slots p new) q ≡ Some a.0 = slice_get-set slots p q new below ∙ ap (λ b. if b then Some new else slice_get slots q) other ∙ a.1.0 in
    (chain.0, make-some-and (slice_get (slice_set slots p new) q) (λ s. IsChain (slice_set slots p new) s.next ps) a.0 at (chain-set slots a.0.next ps p new below parts.1 a.1.1))
