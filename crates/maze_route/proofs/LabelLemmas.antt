-- Labels after one of them is set.
use Rattle.std.proofs.Common.{◌≡◌, ◌≢◌, ℕ, suc, zero, ◌<◌, ◌≤◌, ◌⊎◌, inl, inr, true, false, ◌==◌, nat_lt, List, [], ◌∷◌, length, get_or, Option, Some, None, slice_get, slice_set, Contains, if◌then◌else◌, refl, sym, ap, ◌∙◌, arith}
use Rattle.std.proofs.lemmas.Bool.{cases_eq, cases_Bool, both_ways}
use Rattle.std.proofs.lemmas.Bool.Decides.{nat_tests}
use Rattle.std.proofs.lemmas.Option.{none-some}
use Rattle.maze_route.specs.Labels.{unreached, label_from, label_at, is_lower, relabelled}

-- an item after another is set
pub slice_get-set : {X : Type 0} (xs : List X) (i j : ℕ) (y : X) → i < length xs → slice_get (slice_set xs i y) j ≡ (if j == i then Some y else slice_get xs j)
slice_get-set [] i j y below = absurd (omega arith)
slice_get-set (x ∷ xs) zero zero y below = refl
slice_get-set (x ∷ xs) zero (suc j) y below = let other : (suc j == 0) ≡ false = grind (arith, nat_tests) in rw other refl
slice_get-set (x ∷ xs) (suc i) zero y below = let other : (0 == suc i) ≡ false = grind (arith, nat_tests) in rw other refl
slice_get-set (x ∷ xs) (suc i) (suc j) y below =
    let rest = slice_get-set xs i j y (omega arith) in
    elim (cases_eq j i) [
      | inl same ↦
          let here : (j == i) ≡ true = grind (arith, nat_tests) in
          let there : (suc j == suc i) ≡ true = grind (arith, nat_tests) in
          let o = slice_get xs j in
          rest ∙ ap (λ b. if b then Some y else o) here ∙ sym (ap (λ b. if b then Some y else o) there)
      | inr other ↦
          let here : (j == i) ≡ false = grind (arith, nat_tests) in
          let there : (suc j == suc i) ≡ false = grind (arith, nat_tests) in
          let o = slice_get xs j in
          rest ∙ ap (λ b. if b then Some y else o) here ∙ sym (ap (λ b. if b then Some y else o) there)
    ]

pub label-some : (cost : ℕ) → cost < unreached → label_from (Some cost) ≡ Some cost
label-some cost small = let other : (cost == unreached) ≡ false = grind (arith, nat_tests) in ap (λ b. if b then None else Some cost) other

-- labels after one of them is set
pub label-set : (costs after : List ℕ) (cell cost : ℕ) → cell < length costs → cost < unreached → after ≡ slice_set costs cell cost →
    (n : ℕ) → label_at after n ≡ relabelled (label_at costs) cell cost n
label-set costs after cell cost below small is n =
    let read : List ℕ → Option ℕ = λ xs. label_from (slice_get xs n) in
    ap read is ∙ ap label_from (slice_get-set costs cell n cost below) ∙
    elim (cases_Bool (n == cell)) [
      | inl same ↦ ap (λ b. label_from (if b then Some cost else slice_get costs n)) same ∙ label-some cost small ∙ sym (ap (λ b. if b then Some cost else label_at costs n) same)
      | inr other ↦ ap (λ b. label_from (if b then Some cost else slice_get costs n)) other ∙ sym (ap (λ b. if b then Some cost else label_at costs n) other)
    ]

-- what `relabelled` says, by cases
pub relabelled-here : (label : ℕ → Option ℕ) (cell cost n : ℕ) → n ≡ cell → relabelled label cell cost n ≡ Some cost
relabelled-here label cell cost n same = let test : (n == cell) ≡ true = grind (arith, nat_tests) in ap (λ b. if b then Some cost else label n) test

pub relabelled-there : (label : ℕ → Option ℕ) (cell cost n : ℕ) → n ≢ cell → relabelled label cell cost n ≡ label n
relabelled-there label cell cost n other = let test : (n == cell) ≡ false = grind (arith, nat_tests) in ap (λ b. if b then Some cost else label n) test

-- a cost that lowers a label is less than what stands there
item-above : (o : Option ℕ) (item cost : ℕ) → o ≡ Some item → is_lower (label_from o) cost ≡ true → cost < unreached → cost < item
item-above o item cost is lower small =
    elim (cases_Bool (item == unreached)) [
      | inl same ↦ let e : item ≡ unreached = grind (arith, nat_tests) in omega arith
      | inr other ↦
          let e : label_from o ≡ Some item = ap label_from is ∙ ap (λ b. if b then None else Some item) other in
          let low : nat_lt cost item ≡ true = sym (ap (λ (l : Option ℕ). is_lower l cost) e) ∙ lower in
          grind (arith, nat_tests)
    ]

slice_get-some : (xs : List ℕ) (i d : ℕ) → i < length xs → slice_get xs i ≡ Some (get_or xs i d)
slice_get-some [] i d below = absurd (omega arith)
slice_get-some (x ∷ xs) zero d below = refl
slice_get-some (x ∷ xs) (suc i) d below = slice_get-some xs i d (omega arith)

pub lower-item : (costs : List ℕ) (cell cost : ℕ) → cell < length costs → is_lower (label_at costs cell) cost ≡ true → cost < unreached → cost < get_or costs cell 0
lower-item costs cell cost below lower small = item-above (slice_get costs cell) (get_or costs cell 0) cost (slice_get-some costs cell 0 below) lower small

pub lower-label : (o : Option ℕ) (old cost : ℕ) → o ≡ Some old → is_lower o cost ≡ true → cost < old
lower-label o old cost is lower =
    let low : nat_lt cost old ≡ true = sym (ap (λ (l : Option ℕ). is_lower l cost) is) ∙ lower in
    grind (arith, nat_tests)

pub not-lower : (o : Option ℕ) (cost : ℕ) → is_lower o cost ≡ false → (old : ℕ) × ((o ≡ Some old) × (old ≤ cost))
not-lower None cost same = absurd (both_ways true same refl)
not-lower (Some old) cost same = (old, (refl, grind (arith, nat_tests)))

pub label-within : (costs : List ℕ) (n cost : ℕ) → label_at costs n ≡ Some cost → n < length costs
label-within [] n cost is = absurd (none-some cost is)
label-within (x ∷ xs) zero cost is = omega arith
label-within (x ∷ xs) (suc n) cost is = let h = label-within xs n cost is in omega arith

-- what a list and one more element contain
pub contains-head : {X : Type 0} (x : X) (xs : List X) → Contains (x ∷ xs) x
contains-head x xs = (0, omega arith, refl)

pub contains-more : {X : Type 0} (x y : X) (xs : List X) → Contains xs y → Contains (x ∷ xs) y
contains-more x y xs h = (suc (h.0), let below = h.1 in omega arith, h.2)

from-place : {X : Type 0} (x y : X) (xs : List X) (k : ℕ) → k < length (x ∷ xs) → get_or (x ∷ xs) k y ≡ y → (x ≡ y) ⊎ Contains xs y
from-place x y xs zero below is = inl is
from-place x y xs (suc k) below is = inr (k, omega arith, is)

pub contains-cases : {X : Type 0} (x y : X) (xs : List X) → Contains (x ∷ xs) y → (x ≡ y) ⊎ Contains xs y
contains-cases x y xs h = from-place x y xs h.0 h.1 h.2
