-- What legs and walks cost at least: 1 for each step.
use Rattle.std.proofs.Common.{◌≡◌, ◌≢◌, ℕ, zero, suc, ◌+◌, ◌≤◌, min, List, ◌∷◌, Option, Some, None, Bool, false, unwrap_or, IsTrue, refl, sym, subst, arith}
use Rattle.std.specs.Prelude.{option_and_then, IsSome, IfSome}
use Rattle.std.proofs.lemmas.Bool.{both_ways}
use Rattle.std.proofs.lemmas.List.Elements.{All-map}
use Rattle.cost_rules.specs.Prices.{ArePrices}
use Rattle.gr_base.specs.declared.grid.Edge.{Edge}
use Rattle.gr_base.specs.declared.grid.Shape.{Shape}
use Rattle.gr_base.specs.declared.grid.Way.{Way}
use Rattle.gr_base.specs.Grid.{gap, edge_at, has_edge, is_wire}
use Rattle.pattern_route.specs.declared.line.Line.{Line}
use Rattle.pattern_route.specs.declared.line.Span.{Span}
use Rattle.pattern_route.specs.declared.line.Crossing.{Crossing}
use Rattle.pattern_route.specs.declared.line.Sweep.{Sweep}
use Rattle.pattern_route.specs.Steps.{toward, onward}
use Rattle.pattern_route.specs.Walks.{IsFlat, step_cost, walk_cost, cheaper, least_of}
use Rattle.pattern_route.specs.Lines.{way_along, place_on, IsOn, IsBetween, leg_cost, leaving, crossing, arriving, SpanFits, walk_by, walk_at, walks_by, walks_after, IsAtLine, IsCrossing}
use Rattle.pattern_route.proofs.StepLemmas.{gap-toward, all-onward, all-lines}
use Rattle.pattern_route.proofs.CostLemmas.{leg-step}
use Rattle.pattern_route.proofs.LineLemmas.{step-joined, next-on-line, wire-along}
use Rattle.pattern_route.proofs.CrossingLemmas.{leaving-on, arriving-on, crossing-on-from, crossing-on-to, walk_cost-walk_by}
use Rattle.pattern_route.proofs.ChoiceLemmas.{cheaper-first, least_of-kept}

-- each wire edge costs at least 1
abbrev pub Charges : Shape → (Edge → Option ℕ) → Type 0
Charges g price = (e : Edge) → IsTrue (has_edge g e) → IsTrue (is_wire e) → 1 ≤ unwrap_or (price e) 0

priced-least : (o : Option ℕ) → IsSome o → IfSome o (λ cost. 1 ≤ cost) → 1 ≤ unwrap_or o 0
priced-least None some least = absurd (both_ways false refl some)
priced-least (Some cost) some least = least

pub charges : (g h : Shape) (ways : ℕ → Way → Bool) (price : Edge → Option ℕ) → h ≡ g → IsFlat g price → ArePrices h ways price → Charges g price
charges g h ways price same flat prices =
    let here : ArePrices g ways price = subst (λ (s : Shape). ArePrices s ways price) same prices in
    λ e edge wire. priced-least (price e) (flat.priced e edge wire) (here.least e edge)

step-least : (g : Shape) (price : Edge → Option ℕ) (line : Line) (from to : ℕ) → Charges g price → from ≢ to → IsOn g line from → IsOn g line to →
    1 ≤ step_cost g price (place_on g line from) (place_on g line (toward from to))
step-least g price line from to least other from_on to_on =
    let next = toward from to in
    let step = step-joined g line from to next (min from next) refl refl other from_on to_on in
    let e = edge_at (place_on g line (min from next)) (way_along line.axis) in
    let P : Option Edge → Type 0 = λ o. 1 ≤ unwrap_or (option_and_then price o) 0 in
    subst P (sym step.joins) (least e step.edge (wire-along (place_on g line (min from next)) line.axis))

pub leg-least : (n : ℕ) (g : Shape) (price : Edge → Option ℕ) (line : Line) (from to : ℕ) → gap from to ≡ n → Charges g price → IsOn g line from → IsOn g line to →
    n ≤ leg_cost g price line from to
leg-least zero g price line from to steps least from_on to_on = omega arith
leg-least (suc n) g price line from to steps least from_on to_on =
    let other : from ≢ to = omega arith in
    let next = toward from to in
    let nearer = gap-toward from to other in
    let on = next-on-line g line from to next refl other from_on to_on in
    let rest = leg-least n g price line next to (omega arith) least on to_on in
    let step = step-least g price line from to least other from_on to_on in
    let split = leg-step g price (λ p. place_on g line p) from to other in
    omega (arith, rest, step, split)

-- a walk costs what the legs to and from the line that it crosses by cost, and at least 1 for each step along that line
pub crossing-least : (g : Shape) (price : Edge → Option ℕ) (sweep : Sweep) (across : ℕ) → Charges g price → IsAtLine g price sweep → across ≡ gap sweep.span.from sweep.span.to →
    sweep.left + across + sweep.to_come ≤ walk_cost g price (walk_by g sweep.span sweep.at)
crossing-least g price sweep across least at_line is =
    let span = sweep.span in
    let over = leg-least across g price (crossing span sweep.at) span.from span.to (sym is) least
    (crossing-on-from g span sweep.at at_line.fits at_line.between) (crossing-on-to g span sweep.at at_line.fits at_line.between) in
    plain sweep.left across sweep.to_come (leg_cost g price (leaving span) span.start sweep.at) (leg_cost g price (crossing span sweep.at) span.from span.to)
    (leg_cost g price (arriving span) sweep.at span.end) (walk_cost g price (walk_by g span sweep.at)) at_line.left over at_line.to_come
    (walk_cost-walk_by g price span sweep.at)
  where
    plain : (left across to_come first over last total : ℕ) → left ≡ first → across ≤ over → to_come ≡ last → total ≡ first + (over + last) → left + across + to_come ≤ total
    plain left across to_come first over last total left_is more come_is whole = omega arith

-- each walk of a span costs at least 1 for each of its steps
pub walk-least : (g : Shape) (price : Edge → Option ℕ) (span : Span) (at steps : ℕ) → Charges g price → SpanFits g span → IsBetween span.start at span.end →
    steps ≡ gap span.start span.end + gap span.from span.to → steps ≤ walk_cost g price (walk_by g span at)
walk-least g price span at steps least fits between is =
    let left = leg-least (gap span.start at) g price (leaving span) span.start at refl least fits.start (leaving-on g span at fits between) in
    let over = leg-least (gap span.from span.to) g price (crossing span at) span.from span.to refl least (crossing-on-from g span at fits between) (crossing-on-to g span at fits between) in
    let last = leg-least (gap at span.end) g price (arriving span) at span.end refl least (arriving-on g span at fits between) fits.end in
    plain (gap span.start at) (gap span.from span.to) (gap at span.end) (gap span.start span.end) steps (leg_cost g price (leaving span) span.start at)
    (leg_cost g price (crossing span at) span.from span.to) (leg_cost g price (arriving span) at span.end) (walk_cost g price (walk_by g span at)) between is left over last
    (walk_cost-walk_by g price span at)
  where
    plain : (a b c all steps first over last total : ℕ) → a + c ≡ all → steps ≡ all + b → a ≤ first → b ≤ over → c ≤ last → total ≡ first + (over + last) → steps ≤ total
    plain a b c all steps first over last total parts is left across arrive whole = omega arith

-- a crossing stays the cheaper one before a line that can't be cheaper
pub stays-cheaper : (g : Shape) (price : Edge → Option ℕ) (sweep : Sweep) (best : Crossing) (across : ℕ) → Charges g price → IsAtLine g price sweep → IsCrossing g price best →
    across ≡ gap sweep.span.from sweep.span.to → best.cost ≤ sweep.left + across + sweep.to_come →
    walk_at g best ≡ cheaper (walk_cost g price) (walk_at g best) (walk_by g sweep.span sweep.at)
stays-cheaper g price sweep best across least at_line crossing is cheap =
    let more = crossing-least g price sweep across least at_line is in
    let own = crossing.cost in
    sym (cheaper-first (walk_cost g price) (walk_at g best) (walk_by g sweep.span sweep.at) (omega (arith, more, own, cheap)))

-- no walk of a span is cheaper than a crossing that costs 1 a step
least-between : (g : Shape) (price : Edge → Option ℕ) (span : Span) (best : Crossing) (steps : ℕ) → Charges g price → SpanFits g span → IsCrossing g price best →
    steps ≡ gap span.start span.end + gap span.from span.to → best.cost ≤ steps →
    (at : ℕ) → IsBetween span.start at span.end → walk_cost g price (walk_at g best) ≤ walk_cost g price (walk_by g span at)
least-between g price span best steps least fits crossing is cheap at between =
    let more = walk-least g price span at steps least fits between is in
    let own = crossing.cost in
    omega (arith, more, own, cheap)

pub stays-after : (g : Shape) (price : Edge → Option ℕ) (sweep : Sweep) (best : Crossing) (steps : ℕ) → Charges g price → IsAtLine g price sweep → IsCrossing g price best →
    steps ≡ gap sweep.span.start sweep.span.end + gap sweep.span.from sweep.span.to → best.cost ≤ steps →
    least_of (walk_cost g price) (walk_at g best) (walks_after g sweep) ≡ walk_at g best
stays-after g price sweep best steps least at_line crossing is cheap =
    let span = sweep.span in
    let P : List ℕ → Type 0 = λ w. walk_cost g price (walk_at g best) ≤ walk_cost g price w in
    least_of-kept (walk_cost g price) (walk_at g best) (walks_after g sweep)
    (All-map P (walk_by g span) (onward sweep.at span.end)
    (all-onward (λ at. P (walk_by g span at)) (gap sweep.at span.end) span.start sweep.at span.end refl at_line.between
    (least-between g price span best steps least at_line.fits crossing is cheap)))

pub stays-all : (g : Shape) (price : Edge → Option ℕ) (span : Span) (best : Crossing) (steps : ℕ) → Charges g price → SpanFits g span → IsCrossing g price best →
    steps ≡ gap span.start span.end + gap span.from span.to → best.cost ≤ steps →
    least_of (walk_cost g price) (walk_at g best) (walks_by g span) ≡ walk_at g best
stays-all g price span best steps least fits crossing is cheap =
    let P : List ℕ → Type 0 = λ w. walk_cost g price (walk_at g best) ≤ walk_cost g price w in
    least_of-kept (walk_cost g price) (walk_at g best) (walks_by g span)
    (All-map P (walk_by g span) (span.start ∷ onward span.start span.end)
    (all-lines (λ at. P (walk_by g span at)) span.start span.end (least-between g price span best steps least fits crossing is cheap)))
