-- Each flat walk goes away from its first cell by one step at a time.
use Rattle.std.proofs.Common.{◌≡◌, ◌≢◌, ℕ, zero, suc, ◌+◌, ◌*◌, ◌<◌, inl, inr, false, ◌==◌, List, [], ◌∷◌, ◌++◌, Option, Some, None, All, map, min, if◌then◌else◌, refl, sym, ap, subst, ◌∙◌, zero-add, append-nil, arith}
use Rattle.std.proofs.lemmas.Bool.{cases_lt, cases_eq}
use Rattle.std.proofs.lemmas.Bool.Decides.{nat_tests}
use Rattle.std.proofs.lemmas.List.Elements.{All-nil, All-cons, All-head, All-tail, All-append, All-map}
use Rattle.gr_base.specs.declared.grid.Cell.{Cell}
use Rattle.gr_base.specs.declared.grid.Edge.{Edge}
use Rattle.gr_base.specs.declared.grid.Shape.{Shape}
use Rattle.gr_base.specs.Grid.{cells_of, number_of, place_at, IsInside, gap, steps_between, AreNeighbours}
use Rattle.gr_base.proofs.GridLemmas.{place-number, number-place, number-below, place-inside}
use Rattle.pattern_route.specs.declared.line.Axis.{Axis}
use Rattle.pattern_route.specs.declared.line.Axis.TheVariants.{Columns, Rows}
use Rattle.pattern_route.specs.declared.line.Line.{Line}
use Rattle.pattern_route.specs.declared.line.Span.{Span}
use Rattle.pattern_route.specs.Steps.{toward, onward}
use Rattle.pattern_route.specs.Walks.{by_column, by_row, flat_walk, walk_cost, cheaper, least_of, last_of, StepsOn, Recedes, IsDirect}
use Rattle.pattern_route.specs.Lines.{across, line_cell, place_on, IsOn, IsBetween, along, span_of, leaving, crossing, arriving, SpanFits, walk_by}
use Rattle.pattern_route.proofs.StepLemmas.{onward-none, onward-step, step-cases, gap-toward, all-onward, all-lines}
use Rattle.pattern_route.proofs.LineLemmas.{step-joined, next-on-line}
use Rattle.pattern_route.proofs.CrossingLemmas.{turned, leaving-on, arriving-on, crossing-on-from, crossing-on-to}
use Rattle.pattern_route.proofs.ChoiceLemmas.{cheaper-first, cheaper-second}

-- cells that an edge joins are neighbours
joined-near : (steps : ℕ) (edge found : Edge) → (if steps == 1 then Some edge else None) ≡ Some found → steps ≡ 1
joined-near steps edge found is =
    elim (cases_eq steps 1) [
      | inl one ↦ one
      | inr other ↦
          let test : (steps == 1) ≡ false = grind (arith, nat_tests) in
          let none : (if steps == 1 then Some edge else None) ≡ None = rw test refl in
          cc
    ]

next-near : (g : Shape) (line : Line) (from to : ℕ) → from ≢ to → IsOn g line from → IsOn g line to →
    AreNeighbours g (place_on g line from) (place_on g line (toward from to))
next-near g line from to other from_on to_on =
    let next = toward from to in
    let step = step-joined g line from to next (min from next) refl refl other from_on to_on in
    joined-near (steps_between g (place_on g line from) (place_on g line next)) _ _ step.joins

-- what a leg does before what comes after it
leg-ends : (n : ℕ) (place : ℕ → ℕ) (from to : ℕ) (rest : List ℕ) → gap from to ≡ n →
    last_of (place from) (map place (onward from to) ++ rest) ≡ last_of (place to) rest
leg-ends zero place from to rest steps =
    let same : from ≡ to = omega arith in
    let P : ℕ → Type 0 = λ t. last_of (place from) (map place (onward from t) ++ rest) ≡ last_of (place t) rest in
    subst P same (ap (λ xs. last_of (place from) (map place xs ++ rest)) (onward-none from))
leg-ends (suc n) place from to rest steps =
    let other : from ≢ to = omega arith in
    let nearer = gap-toward from to other in
    ap (λ xs. last_of (place from) (map place xs ++ rest)) (onward-step from to other) ∙
    leg-ends n place (toward from to) to rest (omega arith)

leg-steps : (n : ℕ) (g : Shape) (line : Line) (from to : ℕ) (rest : List ℕ) → gap from to ≡ n → IsOn g line from → IsOn g line to →
    StepsOn g (place_on g line to) rest → StepsOn g (place_on g line from) (along g line from to ++ rest)
leg-steps zero g line from to rest steps from_on to_on after =
    let place : ℕ → ℕ = λ p. place_on g line p in
    let same : from ≡ to = omega arith in
    let P : List ℕ → Type 0 = λ xs. StepsOn g (place from) (map place xs ++ rest) in
    let Q : ℕ → Type 0 = λ t. StepsOn g (place t) rest → StepsOn g (place from) (map place (onward from t) ++ rest) in
    subst Q same (λ here. subst P (sym (onward-none from)) here) after
leg-steps (suc n) g line from to rest steps from_on to_on after =
    let place : ℕ → ℕ = λ p. place_on g line p in
    let other : from ≢ to = omega arith in
    let nearer = gap-toward from to other in
    let P : List ℕ → Type 0 = λ xs. StepsOn g (place from) (map place xs ++ rest) in
    let next_on = next-on-line g line from to (toward from to) refl other from_on to_on in
    subst P (sym (onward-step from to other))
    (next-near g line from to other from_on to_on, leg-steps n g line (toward from to) to rest (omega arith) next_on to_on after)

leg-inside : (n : ℕ) (g : Shape) (line : Line) (from to : ℕ) → gap from to ≡ n → IsOn g line from → IsOn g line to →
    All (λ cell. cell < cells_of g) (along g line from to)
leg-inside zero g line from to steps from_on to_on =
    let place : ℕ → ℕ = λ p. place_on g line p in
    let same : from ≡ to = omega arith in
    let P : ℕ → Type 0 = λ t. All (λ cell. cell < cells_of g) (map place (onward from t)) in
    let Q : List ℕ → Type 0 = λ xs. All (λ cell. cell < cells_of g) (map place xs) in
    subst P same (subst Q (sym (onward-none from)) (All-nil (λ cell. cell < cells_of g)))
leg-inside (suc n) g line from to steps from_on to_on =
    let place : ℕ → ℕ = λ p. place_on g line p in
    let other : from ≢ to = omega arith in
    let nearer = gap-toward from to other in
    let next_on = next-on-line g line from to (toward from to) refl other from_on to_on in
    let Q : List ℕ → Type 0 = λ xs. All (λ cell. cell < cells_of g) (map place xs) in
    subst Q (sym (onward-step from to other))
    (All-cons (λ cell. cell < cells_of g) (place (toward from to)) (map place (onward (toward from to) to))
    (number-below g (line_cell line.axis line.at (toward from to)) next_on)
    (leg-inside n g line (toward from to) to (omega arith) next_on to_on))

-- places on a line lie so far from a cell, and their distance along the line
abbrev pub LiesAlong : Shape → ℕ → Line → ℕ → ℕ → ℕ → Type 0
LiesAlong g a line base from to = (p : ℕ) → IsBetween from p to → IsOn g line p → steps_between g a (place_on g line p) ≡ base + gap from p

lies-next : (base from to next p : ℕ) → next ≡ toward from to → from ≢ to → IsBetween next p to →
    (IsBetween from p to) × (base + gap from p ≡ base + 1 + gap next p)
lies-next base from to next p is other between =
    elim (step-cases from to next is) [
      | inl up ↦ (omega (arith, up.0, up.1), omega (arith, up.0, up.1))
      | inr down ↦ (omega (arith, down.0, down.1), omega (arith, down.0, down.1))
    ]

leg-recedes : (n : ℕ) (g : Shape) (a : ℕ) (line : Line) (base from to end : ℕ) (rest : List ℕ) → gap from to ≡ n → end ≡ base + gap from to + 1 →
    IsOn g line from → IsOn g line to → LiesAlong g a line base from to → Recedes g a end rest →
    Recedes g a (base + 1) (along g line from to ++ rest)
leg-recedes zero g a line base from to end rest steps is from_on to_on lies after =
    let place : ℕ → ℕ = λ p. place_on g line p in
    let same : from ≡ to = omega arith in
    let first : end ≡ base + 1 = omega arith in
    let P : ℕ → Type 0 = λ t. Recedes g a (base + 1) (map place (onward from t) ++ rest) in
    let Q : List ℕ → Type 0 = λ xs. Recedes g a (base + 1) (map place xs ++ rest) in
    let R : ℕ → Type 0 = λ m. Recedes g a m rest in
    subst P same (subst Q (sym (onward-none from)) (subst R first after))
leg-recedes (suc n) g a line base from to end rest steps is from_on to_on lies after =
    let place : ℕ → ℕ = λ p. place_on g line p in
    let other : from ≢ to = omega arith in
    let nearer = gap-toward from to other in
    let next = toward from to in
    let next_on = next-on-line g line from to next refl other from_on to_on in
    let Q : List ℕ → Type 0 = λ xs. Recedes g a (base + 1) (map place xs ++ rest) in
    let next_lies : LiesAlong g a line (base + 1) next to =
    λ p between on.
    let facts = lies-next base from to next p refl other between in
    lies p (facts.0) on ∙ facts.1 in
    let start : IsBetween next next to = omega arith in
    let none : base + 1 + gap next next ≡ base + 1 = omega arith in
    subst Q (sym (onward-step from to other))
    (next_lies next start next_on ∙ none, leg-recedes n g a line (base + 1) next to end rest (omega arith) (omega arith) next_on to_on next_lies after)

-- how far two cells are apart
abbrev pub apart : Cell → Cell → ℕ
apart p q = gap p.x q.x + gap p.y q.y + gap p.layer q.layer

-- how far the cells of the lines are from a cell that the span sees
pub record Sees (a : Cell) (span : Span) : Type 0 where
  pub leaving : (p : ℕ) → apart a (line_cell (across span.axis) span.from p) ≡ gap span.start p
  pub crossing : (at q : ℕ) → apart a (line_cell span.axis at q) ≡ gap span.start at + gap span.from q
  pub arriving : (p : ℕ) → apart a (line_cell (across span.axis) span.to p) ≡ gap span.start p + gap span.from span.to

sees : (axis : Axis) (a b : Cell) → a.layer ≡ 0 → Sees a (span_of axis a b)
sees Columns a b level = record {
  leaving = λ p. omega arith;
  crossing = λ at q. omega arith;
  arriving = λ p. omega arith;
}
sees Rows a b level = record {
  leaving = λ p. omega arith;
  crossing = λ at q. omega arith;
  arriving = λ p. omega arith;
}

lies-on : (g : Shape) (a : ℕ) (line : Line) (p : ℕ) → IsOn g line p →
    steps_between g a (place_on g line p) ≡ apart (place_at g a) (line_cell line.axis line.at p)
lies-on g a line p on = ap (λ (c : Cell). apart (place_at g a) c) (place-number g (line_cell line.axis line.at p) on)

through : (start at p end : ℕ) → IsBetween start at end → IsBetween at p end → gap start p ≡ gap start at + gap at p
through start at p end first second = omega arith

-- the walk by a line of a span is direct
direct-span : (g : Shape) (a : ℕ) (span : Span) (at : ℕ) → SpanFits g span → IsBetween span.start at span.end →
    Sees (place_at g a) span → place_on g (leaving span) span.start ≡ a →
    IsDirect g a (place_on g (arriving span) span.end) (walk_by g span at)
direct-span g a span at fits between sees_it first =
    let number : Cell → ℕ = λ cell. number_of g cell in
    let left : ℕ → ℕ = λ p. place_on g (leaving span) p in
    let over : ℕ → ℕ = λ p. place_on g (crossing span at) p in
    let last : ℕ → ℕ = λ p. place_on g (arriving span) p in
    let leg_1 = along g (leaving span) span.start at in
    let leg_2 = along g (crossing span at) span.from span.to in
    let leg_3 = along g (arriving span) at span.end in
    let rest = leg_1 ++ (leg_2 ++ leg_3) in
    let begin : left at ≡ over span.from = ap number (turned span.axis at span.from) in
    let turn : over span.to ≡ last at = ap number (sym (turned span.axis at span.to)) in
    let whole : leg_3 ++ [] ≡ leg_3 = append-nil leg_3 in
    let left_on = leaving-on g span at fits between in
    let from_on = crossing-on-from g span at fits between in
    let to_on = crossing-on-to g span at fits between in
    let last_on = arriving-on g span at fits between in
    let In : ℕ → Type 0 = λ cell. cell < cells_of g in
    let ends_3 : last_of (last at) leg_3 ≡ last span.end =
    ap (λ xs. last_of (last at) xs) (sym whole) ∙ leg-ends (gap at span.end) last at span.end [] refl in
    let ends_2 : last_of (left at) (leg_2 ++ leg_3) ≡ last span.end =
    ap (λ u. last_of u (leg_2 ++ leg_3)) begin ∙ leg-ends (gap span.from span.to) over span.from span.to leg_3 refl ∙
    ap (λ u. last_of u leg_3) turn ∙ ends_3 in
    let S : ℕ → List ℕ → Type 0 = λ u xs. StepsOn g u xs in
    let steps_3 : StepsOn g (last at) leg_3 =
    subst (S (last at)) whole (leg-steps (gap at span.end) g (arriving span) at span.end [] refl last_on fits.end tt) in
    let S_2 : ℕ → Type 0 = λ u. StepsOn g u (leg_2 ++ leg_3) in
    let S_3 : ℕ → Type 0 = λ u. StepsOn g u leg_3 in
    let steps_2 : StepsOn g (left at) (leg_2 ++ leg_3) =
    subst S_2 (sym begin)
    (leg-steps (gap span.from span.to) g (crossing span at) span.from span.to leg_3 refl from_on to_on (subst S_3 (sym turn) steps_3)) in
    let S_1 : ℕ → Type 0 = λ u. StepsOn g u rest in
    let base = gap span.start at + gap span.from span.to in
    let lies_1 : LiesAlong g a (leaving span) 0 span.start at =
    λ p _ on. lies-on g a (leaving span) p on ∙ sees_it.leaving p ∙ sym (zero-add (gap span.start p)) in
    let lies_2 : LiesAlong g a (crossing span at) (gap span.start at) span.from span.to =
    λ q _ on. lies-on g a (crossing span at) q on ∙ sees_it.crossing at q in
    let lies_3 : LiesAlong g a (arriving span) base at span.end =
    λ p between_p on.
    let far = through span.start at p span.end between between_p in
    let same : gap span.start p + gap span.from span.to ≡ base + gap at p = omega (arith, far) in
    lies-on g a (arriving span) p on ∙ sees_it.arriving p ∙ same in
    let R : List ℕ → Type 0 = λ xs. Recedes g a (base + 1) xs in
    let recedes_3 : Recedes g a (base + 1) leg_3 =
    subst R whole
    (leg-recedes (gap at span.end) g a (arriving span) base at span.end (base + gap at span.end + 1) [] refl refl last_on fits.end lies_3 tt) in
    let recedes_2 : Recedes g a (gap span.start at + 1) (leg_2 ++ leg_3) =
    leg-recedes (gap span.from span.to) g a (crossing span at) (gap span.start at) span.from span.to (base + 1) leg_3 refl refl from_on to_on lies_2 recedes_3 in
    let begins : gap span.start at + 1 ≡ 0 + gap span.start at + 1 = omega arith in
    let start_lies = lies_1 span.start (omega arith) fits.start in
    let none : 0 + gap span.start span.start ≡ 0 = omega arith in
    record {
      rest = rest;
      starts = ap (λ u. u ∷ rest) first;
      ends = ap (λ u. last_of u rest) (sym first) ∙ leg-ends (gap span.start at) left span.start at (leg_2 ++ leg_3) refl ∙ ends_2;
      inside =
          All-cons In (left span.start) rest (number-below g (line_cell (across span.axis) span.from span.start) fits.start)
          (All-append In leg_1 (leg_2 ++ leg_3) (leg-inside (gap span.start at) g (leaving span) span.start at refl fits.start left_on)
          (All-append In leg_2 leg_3 (leg-inside (gap span.from span.to) g (crossing span at) span.from span.to refl from_on to_on)
          (leg-inside (gap at span.end) g (arriving span) at span.end refl last_on fits.end)));
      neighbours = subst S_1 first (leg-steps (gap span.start at) g (leaving span) span.start at (leg_2 ++ leg_3) refl fits.start left_on steps_2);
      recedes =
          (start_lies ∙ none, leg-recedes (gap span.start at) g a (leaving span) 0 span.start at (gap span.start at + 1) (leg_2 ++ leg_3) refl begins fits.start left_on lies_1 recedes_2);
    }

-- what holds of all walks holds of the first least one
least_of-holds : (P : List ℕ → Type 0) (cost : List ℕ → ℕ) (walk : List ℕ) (rest : List (List ℕ)) → P walk → All P rest → P (least_of cost walk rest)
least_of-holds P cost walk [] here all = here
least_of-holds P cost walk (next ∷ rest) here all =
    let better : P (cheaper cost walk next) =
    elim (cases_lt (cost next) (cost walk)) [
      | inl less ↦ subst P (sym (cheaper-second cost walk next less)) (All-head P next rest all)
      | inr most ↦ subst P (sym (cheaper-first cost walk next most)) here
    ] in
    least_of-holds P cost (cheaper cost walk next) rest better (All-tail P next rest all)

-- on one layer a cell's number is its tile's
tile-number : (g : Shape) (a : ℕ) → (place_at g a).layer ≡ 0 →
    number_of g (record { x = (place_at g a).x; y = (place_at g a).y; layer = 0 }) ≡ a
tile-number g a level =
    ap (λ l. (l * g.rows + (place_at g a).y) * g.columns + (place_at g a).x) (sym level) ∙ number-place g a

fits-span : (g : Shape) (axis : Axis) (a b : Cell) → g.layers ≡ 1 → IsInside g a → IsInside g b → SpanFits g (span_of axis a b)
fits-span g Columns a b flat a_in b_in = record {
  start = record { column = a_in.column; row = a_in.row; layer = omega arith };
  end = record { column = b_in.column; row = b_in.row; layer = omega arith };
}
fits-span g Rows a b flat a_in b_in = record {
  start = record { column = a_in.column; row = a_in.row; layer = omega arith };
  end = record { column = b_in.column; row = b_in.row; layer = omega arith };
}

-- on a grid of one layer every flat walk is direct
pub flat_walk-direct : (g : Shape) (price : Edge → Option ℕ) (a b : ℕ) → g.layers ≡ 1 → a < cells_of g → b < cells_of g →
    IsDirect g a b (flat_walk g price a b)
flat_walk-direct g price a b flat a_in b_in =
    let from = place_at g a in
    let to = place_at g b in
    let from_in = place-inside g a a_in in
    let to_in = place-inside g b b_in in
    let from_level : from.layer ≡ 0 = let l = from_in.layer in omega arith in
    let to_level : to.layer ≡ 0 = let l = to_in.layer in omega arith in
    let P : List ℕ → Type 0 = λ w. IsDirect g a b w in
    let begin = tile-number g a from_level in
    let end = tile-number g b to_level in
    let columns : (x : ℕ) → IsBetween from.x x to.x → P (by_column g from to x) =
    λ x between. subst (λ last. IsDirect g a last (by_column g from to x)) end
    (direct-span g a (span_of Columns from to) x (fits-span g Columns from to flat from_in to_in) between (sees Columns from to from_level) begin) in
    let rows : (y : ℕ) → IsBetween from.y y to.y → P (by_row g from to y) =
    λ y between. subst (λ last. IsDirect g a last (by_row g from to y)) end
    (direct-span g a (span_of Rows from to) y (fits-span g Rows from to flat from_in to_in) between (sees Rows from to from_level) begin) in
    let by_columns = All-map P (by_column g from to) (onward from.x to.x)
    (all-onward (λ x. P (by_column g from to x)) (gap from.x to.x) from.x from.x to.x refl (omega arith) columns) in
    let by_rows = All-map P (by_row g from to) (from.y ∷ onward from.y to.y) (all-lines (λ y. P (by_row g from to y)) from.y to.y rows) in
    least_of-holds P (walk_cost g price) (by_column g from to from.x)
    (map (by_column g from to) (onward from.x to.x) ++ map (by_row g from to) (from.y ∷ onward from.y to.y))
    (columns from.x (omega arith))
    (All-append P (map (by_column g from to) (onward from.x to.x)) (map (by_row g from to) (from.y ∷ onward from.y to.y)) by_columns by_rows)
