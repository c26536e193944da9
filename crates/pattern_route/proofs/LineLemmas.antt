-- Places on lines, and the edges between them.
use Rattle.std.proofs.Common.{◌≡◌, ◌≢◌, ℕ, ◌+◌, ◌*◌, ◌<◌, ◌≤◌, inl, inr, min, Option, Some, IsTrue, unwrap_or, refl, sym, ap, subst, ◌∙◌, arith}
use Rattle.std.specs.Prelude.{option_and_then}
use Rattle.std.proofs.Math.Nat.{le-mul_of_pos_right}
use Rattle.std.proofs.lemmas.Bool.{cases_lt}
use Rattle.gr_base.proofs.TreeEdges.{edge_of-swap}
use Rattle.gr_base.specs.declared.grid.Cell.{Cell}
use Rattle.gr_base.specs.declared.grid.Edge.{Edge}
use Rattle.gr_base.specs.declared.grid.Shape.{Shape}
use Rattle.gr_base.specs.declared.grid.Way.{Way}
use Rattle.gr_base.specs.Grid.{number_of, place_at, IsInside, beyond, edge_at, edge_of, has_edge, is_wire}
use Rattle.gr_base.proofs.GridLemmas.{some_columns, few_cells, place-number, number-below, edge-of-beyond, edge-beyond}
use Rattle.pattern_route.specs.declared.line.Axis.{Axis}
use Rattle.pattern_route.specs.declared.line.Axis.TheVariants.{Columns, Rows}
use Rattle.pattern_route.specs.declared.line.Line.{Line}
use Rattle.pattern_route.specs.Steps.{toward}
use Rattle.pattern_route.specs.Walks.{step_cost}
use Rattle.pattern_route.specs.Lines.{way_along, line_cell, place_on, IsOn, IsBetween}
use Rattle.pattern_route.proofs.StepLemmas.{step-cases}

-- a line has every place up to one that it has
on-below : (g : Shape) (axis : Axis) (at less more : ℕ) → less ≤ more →
    IsInside g (line_cell axis at more) → IsInside g (line_cell axis at less)
on-below g Columns at less more below inside = record { column = inside.column; row = let r = inside.row in omega arith; layer = inside.layer }
on-below g Rows at less more below inside = record { column = let c = inside.column in omega arith; row = inside.row; layer = inside.layer }

pub on-between : (g : Shape) (line : Line) (from at to : ℕ) → IsBetween from at to → IsOn g line from → IsOn g line to → IsOn g line at
on-between g line from at to between from_on to_on =
    elim (cases_lt from at) [
      | inl above ↦ on-below g line.axis line.at at to (omega arith) to_on
      | inr below ↦ on-below g line.axis line.at at from below from_on
    ]

few-rows : (g : Shape) (y : ℕ) (cell : Cell) → IsInside g cell → cell.y ≡ y → y < 8388608
few-rows g y cell inside is =
    let columns = some_columns g in
    let number = number-below g cell inside in
    let few = few_cells g in
    let grows : cell.layer * g.rows + cell.y ≤ (cell.layer * g.rows + cell.y) * g.columns = le-mul_of_pos_right (cell.layer * g.rows + cell.y) columns in
    omega arith

few-in : (g : Shape) (axis : Axis) (at place : ℕ) → IsInside g (line_cell axis at place) → place < 8388608
few-in g Columns at place inside = few-rows g place (line_cell Columns at place) inside refl
few-in g Rows at place inside =
    let number = number-below g (line_cell Rows at place) inside in
    let few = few_cells g in
    omega arith

-- a line is short
pub few-places : (g : Shape) (line : Line) (place : ℕ) → IsOn g line place → place < 8388608
few-places g line place on = few-in g line.axis line.at place on

-- two neighbouring places on a line are joined by a wire edge
pub record IsJoined (g : Shape) (low high : ℕ) (way : Way) : Type 0 where
  pub edge : IsTrue (has_edge g (edge_at low way))
  pub joins : edge_of g low high ≡ Some (edge_at low way)

joined-by : (g : Shape) (low high : Cell) (way : Way) → IsInside g low → IsInside g high → high ≡ beyond low way →
    IsJoined g (number_of g low) (number_of g high) way
joined-by g low high way low_in high_in is =
    let number : Cell → ℕ = λ cell. number_of g cell in
    let place : place_at g (number high) ≡ beyond (place_at g (number low)) way =
    place-number g high high_in ∙ is ∙ ap (λ cell. beyond cell way) (sym (place-number g low low_in)) in
    let edge = edge-of-beyond g (number low) (number high) way (number-below g low low_in) (number-below g high high_in) place in
    record { edge = edge.0; joins = edge-beyond g (number low) (number high) way place (sym (edge.1)) }

next-on : (axis : Axis) (at place : ℕ) → line_cell axis at (place + 1) ≡ beyond (line_cell axis at place) (way_along axis)
next-on Columns at place = refl
next-on Rows at place = refl

pub line-joined : (g : Shape) (line : Line) (place : ℕ) → IsOn g line place → IsOn g line (place + 1) →
    IsJoined g (place_on g line place) (place_on g line (place + 1)) (way_along line.axis)
line-joined g line place on next =
    joined-by g (line_cell line.axis line.at place) (line_cell line.axis line.at (place + 1)) (way_along line.axis) on next
    (next-on line.axis line.at place)

pub wire-along : (low : ℕ) (axis : Axis) → IsTrue (is_wire (edge_at low (way_along axis)))
wire-along low Columns = refl
wire-along low Rows = refl

-- the edge of a step along a line
pub record IsStep (g : Shape) (line : Line) (from next low : ℕ) : Type 0 where
  pub on : IsOn g line next
  pub edge : IsTrue (has_edge g (edge_at (place_on g line low) (way_along line.axis)))
  pub joins : edge_of g (place_on g line from) (place_on g line next) ≡ Some (edge_at (place_on g line low) (way_along line.axis))

step-up : (g : Shape) (line : Line) (from next low : ℕ) → next ≡ from + 1 → low ≡ from → IsOn g line from → IsOn g line next →
    IsStep g line from next low
step-up g line from next low up is on next_on =
    let P : ℕ → Type 0 = λ n. IsStep g line from n low in
    let Q : ℕ → Type 0 = λ n. IsStep g line from (from + 1) n in
    let R : ℕ → Type 0 = λ n. IsOn g line n in
    let above : IsOn g line (from + 1) = subst R up next_on in
    let joined = line-joined g line from on above in
    subst P (sym up) (subst Q (sym is) (record { on = above; edge = joined.edge; joins = joined.joins }))

step-down : (g : Shape) (line : Line) (from next low : ℕ) → from ≡ next + 1 → low ≡ next → IsOn g line from → IsOn g line next →
    IsStep g line from next low
step-down g line from next low down is on next_on =
    let P : ℕ → Type 0 = λ n. IsStep g line n next low in
    let Q : ℕ → Type 0 = λ n. IsStep g line (next + 1) next n in
    let R : ℕ → Type 0 = λ n. IsOn g line n in
    let above : IsOn g line (next + 1) = subst R down on in
    let joined = line-joined g line next next_on above in
    subst P (sym down) (subst Q (sym is) (record {
      on = next_on;
      edge = joined.edge;
      joins = edge_of-swap g (place_on g line (next + 1)) (place_on g line next) ∙ joined.joins;
    }))

pub step-joined : (g : Shape) (line : Line) (from to next low : ℕ) → next ≡ toward from to → low ≡ min from next → from ≢ to →
    IsOn g line from → IsOn g line to → IsStep g line from next low
step-joined g line from to next low is least other from_on to_on =
    elim (step-cases from to next is) [
      | inl up ↦
          step-up g line from next low (up.1) (omega (arith, up.1)) from_on
          (on-below g line.axis line.at next to (omega (arith, up.0, up.1)) to_on)
      | inr down ↦
          step-down g line from next low (omega (arith, down.0, down.1)) (omega (arith, down.0, down.1)) from_on
          (on-below g line.axis line.at next from (omega (arith, down.1)) from_on)
    ]

pub next-on-line : (g : Shape) (line : Line) (from to next : ℕ) → next ≡ toward from to → from ≢ to →
    IsOn g line from → IsOn g line to → IsOn g line next
next-on-line g line from to next is other from_on to_on =
    let step = step-joined g line from to next (min from next) is refl other from_on to_on in
    step.on

pub step-price : (g : Shape) (price : Edge → Option ℕ) (u v cost : ℕ) (e : Edge) → edge_of g u v ≡ Some e → price e ≡ Some cost →
    step_cost g price u v ≡ cost
step-price g price u v cost e edge priced =
    ap (λ o. unwrap_or (option_and_then price o) 0) edge ∙ ap (λ o. unwrap_or o 0) priced
