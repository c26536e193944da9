-- Crossings that are chosen have the walks that are chosen.
use Rattle.std.proofs.Common.{◌≡◌, ◌≢◌, ℕ, ◌<◌, ◌≤◌, inl, inr, List, ◌∷◌, true, false, nat_lt, if◌then◌else◌, Option, map, refl, sym, ap, subst, ◌∙◌, arith}
use Rattle.std.proofs.lemmas.Bool.{cases_lt}
use Rattle.std.proofs.lemmas.Bool.Decides.{nat_tests}
use Rattle.gr_base.specs.declared.grid.Edge.{Edge}
use Rattle.gr_base.specs.declared.grid.Shape.{Shape}
use Rattle.pattern_route.specs.declared.line.Span.{Span}
use Rattle.pattern_route.specs.declared.line.Crossing.{Crossing}
use Rattle.pattern_route.specs.declared.line.Sweep.{Sweep}
use Rattle.pattern_route.specs.Steps.{toward, onward}
use Rattle.pattern_route.specs.Walks.{walk_cost, cheaper, least_of}
use Rattle.pattern_route.specs.Lines.{walk_by, walk_at, walks_by, walks_after, IsCrossing}
use Rattle.pattern_route.proofs.StepLemmas.{onward-none, onward-step}
use Rattle.pattern_route.proofs.ChoiceLemmas.{cheaper-first, cheaper-second}

-- the crossing that was chosen of two has the cheaper of their walks
pub record IsChosen (g : Shape) (price : Edge → Option ℕ) (first second chosen : Crossing) : Type 0 where
  pub crossing : IsCrossing g price chosen
  pub walk : walk_at g chosen ≡ cheaper (walk_cost g price) (walk_at g first) (walk_at g second)

pub chosen-walk : (g : Shape) (price : Edge → Option ℕ) (first second chosen : Crossing) → IsCrossing g price first → IsCrossing g price second →
    chosen ≡ (if nat_lt second.cost first.cost then second else first) → IsChosen g price first second chosen
chosen-walk g price first second chosen one two is =
    let cost : List ℕ → ℕ = walk_cost g price in
    let P : Crossing → Type 0 = λ c. IsChosen g price first second c in
    let cost_one = one.cost in
    let cost_two = two.cost in
    elim (cases_lt second.cost first.cost) [
      | inl less ↦
          let test : nat_lt second.cost first.cost ≡ true = grind (arith, nat_tests) in
          let same : chosen ≡ second = is ∙ (rw test refl) in
          let less_walk : cost (walk_at g second) < cost (walk_at g first) = omega (arith, cost_one, cost_two, less) in
          subst P (sym same) (record { crossing = two; walk = sym (cheaper-second cost (walk_at g first) (walk_at g second) less_walk) })
      | inr most ↦
          let test : nat_lt second.cost first.cost ≡ false = grind (arith, nat_tests) in
          let same : chosen ≡ first = is ∙ (rw test refl) in
          let most_walk : cost (walk_at g first) ≤ cost (walk_at g second) = omega (arith, cost_one, cost_two, most) in
          subst P (sym same) (record { crossing = one; walk = sym (cheaper-first cost (walk_at g first) (walk_at g second) most_walk) })
    ]

-- the same where the second is the crossing by a sweep's line
pub line-chosen : (g : Shape) (price : Edge → Option ℕ) (sweep : Sweep) (best second chosen : Crossing) → second.span ≡ sweep.span → second.at ≡ sweep.at →
    IsChosen g price best second chosen → walk_at g chosen ≡ cheaper (walk_cost g price) (walk_at g best) (walk_by g sweep.span sweep.at)
line-chosen g price sweep best second chosen span at is =
    let cost : List ℕ → ℕ = walk_cost g price in
    is.walk ∙
    ap (λ (s : Span). cheaper cost (walk_at g best) (walk_by g s second.at)) span ∙
    ap (λ p. cheaper cost (walk_at g best) (walk_by g sweep.span p)) at

-- the best so far and the next line's, before the lines after it
pub best-more : (g : Shape) (cost : List ℕ → ℕ) (sweep next : Sweep) (best more all : List ℕ) → next.span ≡ sweep.span → next.at ≡ toward sweep.at sweep.span.end →
    sweep.at ≢ sweep.span.end → more ≡ cheaper cost best (walk_by g next.span next.at) → least_of cost best (walks_after g sweep) ≡ all →
    least_of cost more (walks_after g next) ≡ all
best-more g cost sweep next best more all span at other chosen so_far =
    let end = sweep.span.end in
    let walk : ℕ → List ℕ = walk_by g sweep.span in
    let step : next.at ∷ onward next.at end ≡ onward sweep.at end = ap (λ p. p ∷ onward p end) at ∙ sym (onward-step sweep.at end other) in
    ap (λ w. least_of cost w (walks_after g next)) chosen ∙
    ap (λ (s : Span). least_of cost (cheaper cost best (walk_by g s next.at)) (map (walk_by g s) (onward next.at s.end))) span ∙
    ap (λ ps. least_of cost best (map walk ps)) step ∙ so_far

pub best-all : (g : Shape) (cost : List ℕ → ℕ) (sweep : Sweep) (best all : List ℕ) → sweep.at ≡ sweep.span.end →
    least_of cost best (walks_after g sweep) ≡ all → best ≡ all
best-all g cost sweep best all same so_far =
    let end = sweep.span.end in
    let walk : ℕ → List ℕ = walk_by g sweep.span in
    ap (λ ps. least_of cost best (map walk ps)) (sym (onward-none end)) ∙
    ap (λ p. least_of cost best (map walk (onward p end))) (sym same) ∙ so_far

-- the first line's walk and those after it are the walks by the lines of a span
pub by-lines : (g : Shape) (span : Span) (sweep : Sweep) (P : List (List ℕ) → Type 0) → sweep.span ≡ span → sweep.at ≡ span.start →
    P (walk_by g sweep.span sweep.at ∷ walks_after g sweep) → P (walks_by g span)
by-lines g span sweep P same at holds =
    let by_span : P (walk_by g span sweep.at ∷ map (walk_by g span) (onward sweep.at span.end)) =
    subst (λ (s : Span). P (walk_by g s sweep.at ∷ map (walk_by g s) (onward sweep.at s.end))) same holds in
    subst (λ p. P (walk_by g span p ∷ map (walk_by g span) (onward p span.end))) at by_span
