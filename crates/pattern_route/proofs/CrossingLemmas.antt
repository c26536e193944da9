-- Walks by the lines of a span, and what a sweep over them knows.
use Rattle.std.proofs.Common.{◌≡◌, ◌≢◌, ℕ, ◌+◌, ◌-◌, ◌*◌, ◌≤◌, ◌++◌, Option, refl, sym, ap, subst, ◌∙◌, arith}
use Rattle.gr_base.specs.declared.grid.Cell.{Cell}
use Rattle.gr_base.specs.declared.grid.Edge.{Edge}
use Rattle.gr_base.specs.declared.grid.Shape.{Shape}
use Rattle.gr_base.specs.Grid.{IsInside, gap, number_of}
use Rattle.pattern_route.specs.declared.line.Axis.{Axis}
use Rattle.pattern_route.specs.declared.line.Axis.TheVariants.{Columns, Rows}
use Rattle.pattern_route.specs.declared.line.Span.{Span}
use Rattle.pattern_route.specs.declared.line.Sweep.{Sweep}
use Rattle.pattern_route.specs.Steps.{toward}
use Rattle.pattern_route.specs.Walks.{step_cost, cost_onward, walk_cost}
use Rattle.pattern_route.specs.Lines.{across, line_cell, place_on, IsOn, IsBetween, along, leg_cost, leaving, crossing, arriving, SpanFits, walk_by, IsAtLine}
use Rattle.pattern_route.proofs.StepLemmas.{between-next}
use Rattle.pattern_route.proofs.CostLemmas.{leg-step, leg-then, leg-between, leg-one}
use Rattle.pattern_route.proofs.LineLemmas.{on-between}

-- a cell is on the line of either axis
pub turned : (axis : Axis) (at place : ℕ) → line_cell (across axis) place at ≡ line_cell axis at place
turned Columns at place = refl
turned Rows at place = refl

corner : (g : Shape) (axis : Axis) (start end from to : ℕ) → IsInside g (line_cell (across axis) from start) →
    IsInside g (line_cell (across axis) to end) → IsInside g (line_cell (across axis) to start)
corner g Columns start end from to first last = record { column = first.column; row = last.row; layer = first.layer }
corner g Rows start end from to first last = record { column = last.column; row = first.row; layer = first.layer }

-- the lines that a walk leaves and arrives by have each place of the span
pub leaving-on : (g : Shape) (span : Span) (at : ℕ) → SpanFits g span → IsBetween span.start at span.end → IsOn g (leaving span) at
leaving-on g span at fits between =
    on-between g (leaving span) span.start at span.end between fits.start
    (corner g span.axis span.end span.start span.to span.from fits.end fits.start)

pub arriving-on : (g : Shape) (span : Span) (at : ℕ) → SpanFits g span → IsBetween span.start at span.end → IsOn g (arriving span) at
arriving-on g span at fits between =
    on-between g (arriving span) span.start at span.end between
    (corner g span.axis span.start span.end span.from span.to fits.start fits.end) fits.end

pub start-between : (span : Span) → IsBetween span.start span.start span.end
start-between span = omega arith

-- a line that a walk crosses by has the places where it begins and ends
pub crossing-on-from : (g : Shape) (span : Span) (at : ℕ) → SpanFits g span → IsBetween span.start at span.end →
    IsOn g (crossing span at) span.from
crossing-on-from g span at fits between =
    let P : Cell → Type 0 = λ cell. IsInside g cell in
    subst P (turned span.axis at span.from) (leaving-on g span at fits between)

pub crossing-on-to : (g : Shape) (span : Span) (at : ℕ) → SpanFits g span → IsBetween span.start at span.end →
    IsOn g (crossing span at) span.to
crossing-on-to g span at fits between =
    let P : Cell → Type 0 = λ cell. IsInside g cell in
    subst P (turned span.axis at span.to) (arriving-on g span at fits between)

-- a walk costs what its three legs cost
pub walk_cost-walk_by : (g : Shape) (price : Edge → Option ℕ) (span : Span) (at : ℕ) →
    walk_cost g price (walk_by g span at) ≡
    leg_cost g price (leaving span) span.start at +
    (leg_cost g price (crossing span at) span.from span.to + leg_cost g price (arriving span) at span.end)
walk_cost-walk_by g price span at =
    let number : Cell → ℕ = λ cell. number_of g cell in
    let left : ℕ → ℕ = λ place. place_on g (leaving span) place in
    let over : ℕ → ℕ = λ place. place_on g (crossing span at) place in
    let last = along g (arriving span) at span.end in
    let rest = along g (crossing span at) span.from span.to ++ last in
    let begin : left at ≡ over span.from = ap number (turned span.axis at span.from) in
    let turn : over span.to ≡ place_on g (arriving span) at = ap number (sym (turned span.axis at span.to)) in
    let first = leg-then (gap span.start at) g price left span.start at rest refl in
    let second = leg-then (gap span.from span.to) g price over span.from span.to last refl in
    first ∙
    ap (λ k. leg_cost g price (leaving span) span.start at + k)
    (ap (λ u. cost_onward g price u rest) begin ∙ second ∙
    ap (λ u. leg_cost g price (crossing span at) span.from span.to + cost_onward g price u last) turn)

-- the legs from the next line on, as a sweep adds and takes steps
pub record IsNextLine (g : Shape) (price : Edge → Option ℕ) (span : Span) (at next : ℕ) : Type 0 where
  pub between : IsBetween span.start next span.end
  pub left :
      leg_cost g price (leaving span) span.start next ≡
      leg_cost g price (leaving span) span.start at + step_cost g price (place_on g (leaving span) at) (place_on g (leaving span) next)
  pub to_come :
      leg_cost g price (arriving span) at span.end ≡
      step_cost g price (place_on g (arriving span) at) (place_on g (arriving span) next) + leg_cost g price (arriving span) next span.end
  pub farther : gap span.start next ≡ gap span.start at + 1

pub next-line : (g : Shape) (price : Edge → Option ℕ) (span : Span) (at : ℕ) → IsBetween span.start at span.end → at ≢ span.end →
    IsNextLine g price span at (toward at span.end)
next-line g price span at between other =
    let next = toward at span.end in
    let line : ℕ → ℕ = λ place. place_on g (leaving span) place in
    let last : ℕ → ℕ = λ place. place_on g (arriving span) place in
    let facts = between-next span.start at span.end next refl between other in
    record {
      between = facts.1;
      left =
          leg-between g price line span.start at next (facts.0) ∙
          ap (λ k. leg_cost g price (leaving span) span.start at + k) (leg-one g price line at next (facts.2) (facts.3));
      to_come = leg-step g price last at span.end other;
      farther = facts.4;
    }

taken : (to_come step leg rest : ℕ) → to_come ≡ leg → leg ≡ step + rest → (step ≤ to_come) × (to_come - step ≡ rest)
taken to_come step leg rest is split = (omega arith, omega arith)

added : (left step here there : ℕ) → there ≡ here + 1 → step ≤ 1048576 → left ≤ 1048576 * here → left + step ≤ 1048576 * there
added left step here there more small most = omega arith

-- what the step on the line of arrival costs is part of what was to come
pub step-to-come : (g : Shape) (price : Edge → Option ℕ) (sweep : Sweep) (arrive : ℕ) → IsAtLine g price sweep → sweep.at ≢ sweep.span.end →
    arrive ≡ step_cost g price (place_on g (arriving sweep.span) sweep.at) (place_on g (arriving sweep.span) (toward sweep.at sweep.span.end)) →
    (arrive ≤ sweep.to_come) × (sweep.to_come - arrive ≡ leg_cost g price (arriving sweep.span) (toward sweep.at sweep.span.end) sweep.span.end)
step-to-come g price sweep arrive at_line other is =
    let span = sweep.span in
    let rest = leg_cost g price (arriving span) (toward sweep.at span.end) span.end in
    let next = next-line g price span sweep.at at_line.between other in
    taken sweep.to_come arrive (leg_cost g price (arriving span) sweep.at span.end) rest at_line.to_come
    (next.to_come ∙ ap (λ k. k + rest) (sym is))

-- the sweep a line further
pub at-next : (g : Shape) (price : Edge → Option ℕ) (sweep : Sweep) (at leave arrive : ℕ) → IsAtLine g price sweep → sweep.at ≢ sweep.span.end →
    at ≡ toward sweep.at sweep.span.end →
    leave ≡ step_cost g price (place_on g (leaving sweep.span) sweep.at) (place_on g (leaving sweep.span) (toward sweep.at sweep.span.end)) →
    arrive ≡ step_cost g price (place_on g (arriving sweep.span) sweep.at) (place_on g (arriving sweep.span) (toward sweep.at sweep.span.end)) →
    leave ≤ 1048576 →
    IsAtLine g price (record { span = sweep.span; at = at; left = sweep.left + leave; to_come = sweep.to_come - arrive })
at-next g price sweep at leave arrive at_line other is left come small =
    let span = sweep.span in
    let next = next-line g price span sweep.at at_line.between other in
    let rest = step-to-come g price sweep arrive at_line other come in
    let P : ℕ → Type 0 = λ n. IsAtLine g price (record { span = span; at = n; left = sweep.left + leave; to_come = sweep.to_come - arrive }) in
    let paid : sweep.left + leave ≡ leg_cost g price (leaving span) span.start (toward sweep.at span.end) =
    ap (λ k. k + leave) at_line.left ∙ ap (λ k. leg_cost g price (leaving span) span.start sweep.at + k) left ∙ sym next.left in
    subst P (sym is) (record {
      fits = at_line.fits;
      between = next.between;
      left = paid;
      to_come = rest.1;
      left_most = added sweep.left leave (gap span.start sweep.at) (gap span.start (toward sweep.at span.end)) next.farther small at_line.left_most;
      to_come_most = let most = at_line.to_come_most in let less = rest.0 in omega (arith, most, less);
    })
