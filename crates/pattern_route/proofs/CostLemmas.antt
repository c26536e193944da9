-- What legs cost, one after another.
use Rattle.std.proofs.Common.{◌≡◌, ◌≢◌, ℕ, zero, suc, ◌+◌, List, ◌++◌, Option, map, refl, sym, ap, subst, ◌∙◌, add_assoc, add-zero, zero-add, arith}
use Rattle.std.proofs.lemmas.List.{map-append}
use Rattle.gr_base.specs.declared.grid.Edge.{Edge}
use Rattle.gr_base.specs.declared.grid.Shape.{Shape}
use Rattle.gr_base.specs.Grid.{gap}
use Rattle.pattern_route.specs.Steps.{toward, onward}
use Rattle.pattern_route.specs.Walks.{step_cost, cost_onward}
use Rattle.pattern_route.specs.Lines.{IsBetween}
use Rattle.pattern_route.proofs.StepLemmas.{onward-none, onward-step, onward-between, onward-one, gap-toward}

-- what it costs to go on along places from one to another
abbrev pub cost_of_leg : Shape → (Edge → Option ℕ) → (ℕ → ℕ) → ℕ → ℕ → ℕ
cost_of_leg g price place from to = cost_onward g price (place from) (map place (onward from to))

pub leg-none : (g : Shape) (price : Edge → Option ℕ) (place : ℕ → ℕ) (at : ℕ) → cost_of_leg g price place at at ≡ 0
leg-none g price place at = ap (λ xs. cost_onward g price (place at) (map place xs)) (onward-none at)

pub leg-step : (g : Shape) (price : Edge → Option ℕ) (place : ℕ → ℕ) (from to : ℕ) → from ≢ to →
    cost_of_leg g price place from to ≡
    step_cost g price (place from) (place (toward from to)) + cost_of_leg g price place (toward from to) to
leg-step g price place from to other = ap (λ xs. cost_onward g price (place from) (map place xs)) (onward-step from to other)

-- what follows a leg is paid from its end
pub leg-then : (n : ℕ) (g : Shape) (price : Edge → Option ℕ) (place : ℕ → ℕ) (from to : ℕ) (ys : List ℕ) → gap from to ≡ n →
    cost_onward g price (place from) (map place (onward from to) ++ ys) ≡
    cost_of_leg g price place from to + cost_onward g price (place to) ys
leg-then zero g price place from to ys steps =
    let same : from ≡ to = omega arith in
    let P : ℕ → Type 0 = λ p.
    cost_onward g price (place from) (map place (onward from p) ++ ys) ≡
    cost_of_leg g price place from p + cost_onward g price (place p) ys in
    let F : List ℕ → ℕ = λ xs. cost_onward g price (place from) (map place xs ++ ys) in
    subst P same
    (ap F (onward-none from) ∙ sym (zero-add (cost_onward g price (place from) ys)) ∙
    ap (λ k. k + cost_onward g price (place from) ys) (sym (leg-none g price place from)))
leg-then (suc n) g price place from to ys steps =
    let other : from ≢ to = omega arith in
    let nearer = gap-toward from to other in
    let F : List ℕ → ℕ = λ xs. cost_onward g price (place from) (map place xs ++ ys) in
    let rest = leg-then n g price place (toward from to) to ys (omega arith) in
    let step = step_cost g price (place from) (place (toward from to)) in
    ap F (onward-step from to other) ∙ ap (λ k. step + k) rest ∙
    sym (add_assoc step (cost_of_leg g price place (toward from to) to) (cost_onward g price (place to) ys)) ∙
    ap (λ k. k + cost_onward g price (place to) ys) (sym (leg-step g price place from to other))

-- a leg is paid in two parts
pub leg-between : (g : Shape) (price : Edge → Option ℕ) (place : ℕ → ℕ) (from at to : ℕ) → IsBetween from at to →
    cost_of_leg g price place from to ≡ cost_of_leg g price place from at + cost_of_leg g price place at to
leg-between g price place from at to between =
    ap (λ xs. cost_onward g price (place from) (map place xs)) (onward-between (gap from at) from at to refl between) ∙
    ap (λ xs. cost_onward g price (place from) xs) (map-append place (onward from at) (onward at to)) ∙
    leg-then (gap from at) g price place from at (map place (onward at to)) refl

pub leg-one : (g : Shape) (price : Edge → Option ℕ) (place : ℕ → ℕ) (at next : ℕ) → toward at next ≡ next → at ≢ next →
    cost_of_leg g price place at next ≡ step_cost g price (place at) (place next)
leg-one g price place at next is other =
    ap (λ xs. cost_onward g price (place at) (map place xs)) (onward-one at next is other) ∙
    add-zero (step_cost g price (place at) (place next))
