-- A bound that is made by scales falls with a step by no more than the step costs.
use Rattle.std.proofs.Common.{◌≡◌, ℕ, ◌+◌, ◌-◌, ◌*◌, ◌<◌, ◌≤◌, ◌⊎◌, inl, inr, List, length, map, Option, Some, refl, sym, ap, subst, ◌∙◌, arith}
use Rattle.std.proofs.lemmas.Bool.{cases_lt}
use Rattle.std.proofs.lemmas.List.{length-map, get_or-map, get_or_past}
use Rattle.std.proofs.Math.Nat.{mul-le-mul_right}
use Rattle.cost_rules.specs.Prices.{IsBelowVias}
use Rattle.gr_base.specs.declared.grid.Cell.{Cell}
use Rattle.gr_base.specs.declared.grid.Edge.{Edge}
use Rattle.gr_base.specs.declared.grid.Way.{Way}
use Rattle.gr_base.specs.declared.grid.Way.TheVariants.{East, North, Up}
use Rattle.gr_base.specs.Grid.{gap, place_at, beyond}
use Rattle.gr_base.proofs.GridLemmas.{place-inside}
use Rattle.maze_route.specs.Positions.{most_position, at, AreUpTo, outside}
use Rattle.maze_route.specs.Scales.{AreScales}
use Rattle.maze_route.specs.Spans.{outside_by}
use Rattle.maze_route.specs.Steps.{size_of, cell_in, pane_step}
use Rattle.maze_route.specs.Windows.{window_step}
use Rattle.maze_route.specs.declared.pane.Pane.{Pane}
use Rattle.maze_route.specs.declared.scales.Scales.{Scales}
use Rattle.maze_route.specs.declared.span.Span.{Span}
use Rattle.maze_route.proofs.PaneLemmas.{place-cell}
use Rattle.maze_route.proofs.StepLemmas.{IsStepBy, step-by, chosen-some, at-some}

-- how far outside a box something lies grows by no more than it moves
outside-near : (from to a b : ℕ) → outside from to a ≤ gap a b + outside from to b
outside-near from to a b = omega arith

-- the parts of a bound
pub record Parts : Type 0 where
  pub columns : List ℕ
  pub rows : List ℕ
  pub top : ℕ
  pub via : ℕ

abbrev pub rest_by : Pane → Parts → ℕ → ℕ
rest_by p parts n =
    let place = place_at p.shape n in
    at parts.columns place.x + at parts.rows place.y + (place.layer - parts.top) * parts.via

-- the parts by column and row, from scales
pub record IsMadeBy (s : Scales) (p : Pane) (span : Span) (parts : Parts) : Type 0 where
  pub by_columns : parts.columns ≡ map (outside span.left span.right) s.columns.items
  pub by_rows : parts.rows ≡ map (outside span.low span.high) s.rows.items
  pub by_top : parts.top ≡ span.top
  pub columns_fit : length s.columns.items ≡ p.shape.columns
  pub rows_fit : length s.rows.items ≡ p.shape.rows

column-part : (s : Scales) (p : Pane) (span : Span) (parts : Parts) (n : ℕ) → IsMadeBy s p span parts → n < size_of p →
    at parts.columns (place_at p.shape n).x ≡ outside span.left span.right (at s.columns.items (place_at p.shape n).x)
column-part s p span parts n made below =
    let x = (place_at p.shape n).x in
    let inside = place-inside p.shape n below in
    ap (λ (xs : List ℕ). at xs x) made.by_columns ∙ get_or-map (outside span.left span.right) s.columns.items x 0 0 (omega (arith, inside.column, made.columns_fit))

row-part : (s : Scales) (p : Pane) (span : Span) (parts : Parts) (n : ℕ) → IsMadeBy s p span parts → n < size_of p →
    at parts.rows (place_at p.shape n).y ≡ outside span.low span.high (at s.rows.items (place_at p.shape n).y)
row-part s p span parts n made below =
    let y = (place_at p.shape n).y in
    let inside = place-inside p.shape n below in
    ap (λ (xs : List ℕ). at xs y) made.by_rows ∙ get_or-map (outside span.low span.high) s.rows.items y 0 0 (omega (arith, inside.row, made.rows_fit))

-- a cell that lies outside the box by nothing has nothing before it
pub rest-none : (s : Scales) (p : Pane) (span : Span) (parts : Parts) (n : ℕ) → IsMadeBy s p span parts → n < size_of p → outside_by s p span n ≡ 0 → rest_by p parts n ≡ 0
rest-none s p span parts n made below none =
    let column = column-part s p span parts n made below in
    let row = row-part s p span parts n made below in
    let level : (place_at p.shape n).layer - parts.top ≡ 0 = omega (arith, none, made.by_top) in
    let layers = ap (λ (l : ℕ). l * parts.via) level in
    omega (arith, none, column, row, layers)

-- the positions of two cells of a step differ by no more than it costs
step-apart : (s : Scales) (p : Pane) (price : Edge → Option ℕ) (n m cost : ℕ) → AreScales p.grid p.window price s → n < size_of p → m < size_of p → pane_step p price n m ≡ Some cost →
    gap (at s.columns.items (place_at p.shape n).x) (at s.columns.items (place_at p.shape m).x)
    + gap (at s.rows.items (place_at p.shape n).y) (at s.rows.items (place_at p.shape m).y) ≤ cost
step-apart s p price n m cost scales n_in m_in is =
    let whole = chosen-some _ (window_step p.grid p.window price (cell_in p n) (cell_in p m)) cost is in
    let below = scales.below (cell_in p n) (cell_in p m) cost whole.1 in
    let a = place-cell p n n_in in
    let b = place-cell p m m_in in
    let ax : (place_at p.grid (cell_in p n)).x - p.window.x0 ≡ (place_at p.shape n).x = let e = ap (λ (q : Cell). q.x) a in omega arith in
    let bx : (place_at p.grid (cell_in p m)).x - p.window.x0 ≡ (place_at p.shape m).x = let e = ap (λ (q : Cell). q.x) b in omega arith in
    let ay : (place_at p.grid (cell_in p n)).y - p.window.y0 ≡ (place_at p.shape n).y = let e = ap (λ (q : Cell). q.y) a in omega arith in
    let by : (place_at p.grid (cell_in p m)).y - p.window.y0 ≡ (place_at p.shape m).y = let e = ap (λ (q : Cell). q.y) b in omega arith in
    let xs = s.columns.items in
    let ys = s.rows.items in
    let one = ap (λ (i : ℕ). at xs i) ax in
    let two = ap (λ (i : ℕ). at xs i) bx in
    let three = ap (λ (i : ℕ). at ys i) ay in
    let four = ap (λ (i : ℕ). at ys i) by in
    omega (arith, below, one, two, three, four)

-- the part by layer
abbrev layer_part : Parts → Cell → ℕ
layer_part parts q = (q.layer - parts.top) * parts.via

-- on one layer it stays, and between two it changes by no more than a via edge costs
via-part : (parts : Parts) (q : Cell) → (layer_part parts (beyond q Up) ≤ parts.via + layer_part parts q) × (layer_part parts q ≤ parts.via + layer_part parts (beyond q Up))
via-part parts q =
    let more : q.layer + 1 - parts.top ≤ 1 + (q.layer - parts.top) = omega arith in
    let up : (q.layer + 1 - parts.top) * parts.via ≤ (1 + (q.layer - parts.top)) * parts.via = mul-le-mul_right parts.via more in
    let less : q.layer - parts.top ≤ q.layer + 1 - parts.top = omega arith in
    let down : (q.layer - parts.top) * parts.via ≤ (q.layer + 1 - parts.top) * parts.via = mul-le-mul_right parts.via less in
    (omega (arith, up), omega (arith, down))

-- the parts of two neighbours
pub record AreBeside (parts : Parts) (a b : Cell) (cost : ℕ) : Type 0 where
  pub tiles : (a.layer ≡ b.layer) ⊎ ((a.x ≡ b.x) × (a.y ≡ b.y))
  pub up : layer_part parts a ≤ cost + layer_part parts b
  pub down : layer_part parts b ≤ cost + layer_part parts a

beside-by : (parts : Parts) (q : Cell) (way : Way) (cost : ℕ) → (way ≡ Up → parts.via ≤ cost) → AreBeside parts q (beyond q way) cost
beside-by parts q East cost vias = record { tiles = inl refl; up = omega arith; down = omega arith }
beside-by parts q North cost vias = record { tiles = inl refl; up = omega arith; down = omega arith }
beside-by parts q Up cost vias =
    let part = via-part parts q in
    let most = vias refl in
    record { tiles = inr (refl, refl); up = omega (arith, part.1, most); down = omega (arith, part.0, most) }

beside-swap : (parts : Parts) (a b : Cell) (cost : ℕ) → AreBeside parts a b cost → AreBeside parts b a cost
beside-swap parts a b cost beside = record {
  tiles = elim (beside.tiles) [
    | inl level ↦ inl (sym level)
    | inr tile ↦ inr (sym (tile.0), sym (tile.1))
  ];
  up = beside.down;
  down = beside.up;
}

step-beside : (p : Pane) (price : Edge → Option ℕ) (parts : Parts) (n m cost : ℕ) → IsBelowVias p.grid price parts.via → IsStepBy p price n m cost →
    AreBeside parts (place_at p.shape n) (place_at p.shape m) cost
step-beside p price parts n m cost vias by =
    let most : by.way ≡ Up → parts.via ≤ cost = λ up. at-some (price by.edge) cost (λ c. parts.via ≤ c) by.priced (vias by.edge by.has (by.goes ∙ up)) in
    let P : Cell → Type 0 = λ q. AreBeside parts (place_at p.shape n) q cost in
    let Q : Cell → Type 0 = λ q. AreBeside parts q (place_at p.shape m) cost in
    elim (by.next) [
      | inl next ↦ subst P (sym next.place) (beside-by parts (place_at p.shape n) by.way cost most)
      | inr next ↦ subst Q (sym next.place) (beside-swap parts (place_at p.shape m) (beyond (place_at p.shape m) by.way) cost (beside-by parts (place_at p.shape m) by.way cost most))
    ]

-- such a bound falls with a step by no more than it costs
pub step-falls : (s : Scales) (p : Pane) (price : Edge → Option ℕ) (span : Span) (parts : Parts) (n m cost : ℕ) → AreScales p.grid p.window price s → IsBelowVias p.grid price parts.via →
    IsMadeBy s p span parts → pane_step p price n m ≡ Some cost → rest_by p parts n ≤ cost + rest_by p parts m
step-falls s p price span parts n m cost scales vias made is =
    let by = step-by p price n m cost is in
    let inside : (n < size_of p) × (m < size_of p) = elim (by.next) [ inl next ↦ (next.low_inside, next.inside) | inr next ↦ (next.inside, next.low_inside) ] in
    let beside = step-beside p price parts n m cost vias by in
    let apart_by = step-apart s p price n m cost scales inside.0 inside.1 is in
    let a = place_at p.shape n in
    let b = place_at p.shape m in
    let column_n = column-part s p span parts n made inside.0 in
    let column_m = column-part s p span parts m made inside.1 in
    let row_n = row-part s p span parts n made inside.0 in
    let row_m = row-part s p span parts m made inside.1 in
    let columns = outside-near span.left span.right (at s.columns.items a.x) (at s.columns.items b.x) in
    let rows = outside-near span.low span.high (at s.rows.items a.y) (at s.rows.items b.y) in
    elim (beside.tiles) [
      | inl level ↦
          let layers = ap (λ (l : ℕ). (l - parts.top) * parts.via) level in
          omega (arith, apart_by, column_n, column_m, row_n, row_m, columns, rows, layers)
      | inr tile ↦
          let x = ap (λ (i : ℕ). at parts.columns i) (tile.0) in
          let y = ap (λ (i : ℕ). at parts.rows i) (tile.1) in
          let layers = beside.up in
          omega (arith, x, y, layers)
    ]

-- the parts are small
pub small-parts : (from to : ℕ) (positions parts : List ℕ) → parts ≡ map (outside from to) positions → from ≤ most_position → AreUpTo most_position positions →
    AreUpTo (2 * most_position) parts
small-parts from to positions parts are near all place =
    let whole = ap (λ (xs : List ℕ). at xs place) are in
    elim (cases_lt place (length positions)) [
      | inl below ↦
          let one = get_or-map (outside from to) positions place 0 0 below in
          let most = all place in
          omega (arith, whole, one, most)
      | inr past ↦
          let none = get_or_past (map (outside from to) positions) place 0 (let size = length-map positions (outside from to) in omega (arith, size)) in
          omega (arith, whole, none)
    ]
