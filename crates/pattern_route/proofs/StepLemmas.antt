-- Steps from one number to another.
use Rattle.std.proofs.Common.{◌≡◌, ◌≢◌, ℕ, zero, suc, ◌+◌, ◌-◌, ◌<◌, ◌≤◌, ◌⊎◌, inl, inr, List, [], ◌∷◌, ◌++◌, All, true, false, nat_lt, refl, sym, ap, subst, ◌∙◌, arith}
use Rattle.std.proofs.lemmas.Bool.{cases_lt}
use Rattle.std.proofs.lemmas.Bool.Decides.{nat_tests}
use Rattle.std.proofs.lemmas.List.Elements.{All-nil, All-cons}
use Rattle.gr_base.specs.Grid.{gap}
use Rattle.pattern_route.specs.Steps.{toward, steps_toward, onward}
use Rattle.pattern_route.specs.Lines.{IsBetween}

pub toward-up : (from to : ℕ) → from < to → toward from to ≡ from + 1
toward-up from to up = let test : nat_lt from to ≡ true = grind (arith, nat_tests) in rw test refl

pub toward-down : (from to : ℕ) → to ≤ from → toward from to ≡ from - 1
toward-down from to down = let test : nat_lt from to ≡ false = grind (arith, nat_tests) in rw test refl

-- where a step leads, as plain numbers
pub step-cases : (from to next : ℕ) → next ≡ toward from to → ((from < to) × (next ≡ from + 1)) ⊎ ((to ≤ from) × (next ≡ from - 1))
step-cases from to next is =
    elim (cases_lt from to) [
      | inl up ↦ inl (up, is ∙ toward-up from to up)
      | inr down ↦ inr (down, is ∙ toward-down from to down)
    ]

-- a step comes nearer by one
gap-next : (from to next : ℕ) → next ≡ toward from to → from ≢ to → gap from to ≡ suc (gap next to)
gap-next from to next is other =
    elim (step-cases from to next is) [
      | inl up ↦ omega (arith, up.0, up.1)
      | inr down ↦ omega (arith, down.0, down.1)
    ]

pub gap-toward : (from to : ℕ) → from ≢ to → gap from to ≡ suc (gap (toward from to) to)
gap-toward from to other = gap-next from to (toward from to) refl other

pub onward-none : (place : ℕ) → onward place place ≡ []
unfolding steps_toward
onward-none place = let none : gap place place ≡ 0 = omega arith in ap (λ n. steps_toward n place place) none

pub onward-step : (from to : ℕ) → from ≢ to → onward from to ≡ toward from to ∷ onward (toward from to) to
unfolding steps_toward
onward-step from to other = ap (λ n. steps_toward n from to) (gap-toward from to other)

-- the way to a number between is the way to the last
pub toward-between : (from place to : ℕ) → IsBetween from place to → from ≢ place → toward from place ≡ toward from to
toward-between from place to between other =
    elim (cases_lt from place) [
      | inl up ↦ let far : from < to = omega arith in toward-up from place up ∙ sym (toward-up from to far)
      | inr down ↦ let far : to ≤ from = omega arith in toward-down from place down ∙ sym (toward-down from to far)
    ]

-- a step keeps what lies between
between-toward : (from place to next : ℕ) → next ≡ toward from to → IsBetween from place to → from ≢ place → IsBetween next place to
between-toward from place to next is between other =
    elim (step-cases from to next is) [
      | inl up ↦ omega (arith, up.0, up.1)
      | inr down ↦ omega (arith, down.0, down.1)
    ]

-- to go on to a last number is to go on to one between, and from there to the last
pub onward-between : (n from place to : ℕ) → gap from place ≡ n → IsBetween from place to →
    onward from to ≡ onward from place ++ onward place to
onward-between zero from place to steps between =
    let same : from ≡ place = omega arith in
    let P : ℕ → Type 0 = λ p. onward from to ≡ onward from p ++ onward p to in
    subst P same (ap (λ xs. xs ++ onward from to) (sym (onward-none from)))
onward-between (suc n) from place to steps between =
    let other : from ≢ place = omega arith in
    let far : from ≢ to = omega arith in
    let next = toward from to in
    let way : toward from place ≡ next = toward-between from place to between other in
    let nearer : suc (gap next place) ≡ suc n =
    ap (λ p. suc (gap p place)) (sym way) ∙ sym (gap-toward from place other) ∙ steps in
    let here : onward from place ≡ next ∷ onward next place =
    onward-step from place other ∙ ap (λ p. p ∷ onward p place) way in
    let rest = onward-between n next place to (omega arith) (between-toward from place to next refl between other) in
    onward-step from to far ∙ ap (λ xs. next ∷ xs) rest ∙ ap (λ xs. xs ++ onward place to) (sym here)

-- a sweep that takes one step more stays between its ends
pub between-next : (start at end next : ℕ) → next ≡ toward at end → IsBetween start at end → at ≢ end →
    (IsBetween start at next) × (IsBetween start next end) × (toward at next ≡ next) × (at ≢ next) × (gap start next ≡ gap start at + 1)
between-next start at end next is between other =
    elim (step-cases at end next is) [
      | inl up ↦ (omega (arith, up.0, up.1), omega (arith, up.0, up.1), toward-up at next (omega (arith, up.0, up.1)) ∙ sym (up.1), omega (arith, up.0, up.1), omega (arith, up.0, up.1))
      | inr down ↦ (omega (arith, down.0, down.1), omega (arith, down.0, down.1), toward-down at next (omega (arith, down.0, down.1)) ∙ sym (down.1), omega (arith, down.0, down.1), omega (arith, down.0, down.1))
    ]

-- one step
pub onward-one : (at next : ℕ) → toward at next ≡ next → at ≢ next → onward at next ≡ next ∷ []
onward-one at next is other =
    onward-step at next other ∙ ap (λ p. p ∷ onward p next) is ∙ ap (λ xs. next ∷ xs) (onward-none next)

-- what holds of every number between two holds of those on the way from one to the other
pub all-onward : (P : ℕ → Type 0) (n start from to : ℕ) → gap from to ≡ n → IsBetween start from to →
    ((p : ℕ) → IsBetween start p to → P p) → All P (onward from to)
all-onward P zero start from to steps between holds =
    let same : from ≡ to = omega arith in
    let Q : ℕ → Type 0 = λ t. All P (onward from t) in
    let R : List ℕ → Type 0 = λ xs. All P xs in
    subst Q same (subst R (sym (onward-none from)) (All-nil P))
all-onward P (suc n) start from to steps between holds =
    let other : from ≢ to = omega arith in
    let nearer = gap-toward from to other in
    let next = toward from to in
    let facts = between-next start from to next refl between other in
    let R : List ℕ → Type 0 = λ xs. All P xs in
    subst R (sym (onward-step from to other))
    (All-cons P next (onward next to) (holds next (facts.1)) (all-onward P n start next to (omega arith) (facts.1) holds))

pub all-lines : (P : ℕ → Type 0) (start end : ℕ) → ((p : ℕ) → IsBetween start p end → P p) → All P (start ∷ onward start end)
all-lines P start end holds =
    let here : IsBetween start start end = omega arith in
    All-cons P start (onward start end) (holds start here) (all-onward P (gap start end) start start end refl here holds)
