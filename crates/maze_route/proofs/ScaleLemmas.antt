-- Positions of columns and rows are scales.
use Rattle.std.proofs.Common.{◌≡◌, ℕ, ◌+◌, ◌-◌, ◌<◌, ◌≤◌, inl, inr, ◌&&◌, List, length, Option, Some, IsTrue, sym, ap, subst, ◌∙◌, arith}
use Rattle.std.specs.Prelude.{option_and_then}
use Rattle.std.proofs.lemmas.Bool.Decides.{nat_tests}
use Rattle.gr_base.specs.declared.grid.Cell.{Cell}
use Rattle.gr_base.specs.declared.grid.Edge.{Edge}
use Rattle.gr_base.specs.declared.grid.Shape.{Shape}
use Rattle.gr_base.specs.declared.grid.Way.{Way}
use Rattle.gr_base.specs.declared.grid.Way.TheVariants.{East, North, Up}
use Rattle.gr_base.specs.Grid.{cells_of, gap, place_at, beyond, high_of, has_edge, edge_at, edge_of, Joins}
use Rattle.gr_base.proofs.GridLemmas.{place-high, edge_of-joins}
use Rattle.maze_route.specs.Positions.{at, borders_of, IsCrossed, ArePositions}
use Rattle.maze_route.specs.Scales.{AreScales}
use Rattle.maze_route.specs.Windows.{IsWindow, in_window}
use Rattle.maze_route.specs.declared.scales.Scales.{Scales}
use Rattle.maze_route.specs.declared.window.Window.{Window}
use Rattle.maze_route.proofs.PositionLemmas.{IsHeld, window-held}
use Rattle.maze_route.proofs.StepLemmas.{chosen-some, then-some, at-some}

-- the positions on both sides of a border lie no further apart than it costs to cross it
crossed-gap : (positions : List ℕ) (border next cost : ℕ) → next ≡ border + 1 → IsCrossed positions border cost →
    (gap (at positions border) (at positions next) ≤ cost) × (gap (at positions next) (at positions border) ≤ cost)
crossed-gap positions border next cost is crossed =
    let same = ap (λ (i : ℕ). at positions i) is in
    (omega (arith, same, crossed.rises, crossed.most), omega (arith, same, crossed.rises, crossed.most))

-- how far apart two places lie
abbrev between : Window → Scales → Cell → Cell → ℕ
between w s a b =
    gap (at s.columns.items (a.x - w.x0)) (at s.columns.items (b.x - w.x0)) + gap (at s.rows.items (a.y - w.y0)) (at s.rows.items (b.y - w.y0))

abbrev AreApart : Window → Scales → Cell → Cell → ℕ → Type 0
AreApart w s a b cost = (between w s a b ≤ cost) × (between w s b a ≤ cost)

-- the ends of an edge
edge-apart : (g : Shape) (w : Window) (price : Edge → Option ℕ) (s : Scales) (low cost : ℕ) (way : Way) → ArePositions g w price East s.columns.items →
    ArePositions g w price North s.rows.items → IsTrue (in_window g w low) → IsHeld w (beyond (place_at g low) way) → price (edge_at low way) ≡ Some cost →
    AreApart w s (place_at g low) (beyond (place_at g low) way) cost
edge-apart g w price s low cost East columns rows within held is =
    let own = window-held g w low within in
    let x = (place_at g low).x in
    let crossed = columns low cost within (omega (arith, held.x1)) is in
    let gaps = crossed-gap s.columns.items (x - w.x0) (x + 1 - w.x0) cost (omega (arith, own.x0)) crossed in
    (omega (arith, gaps.0), omega (arith, gaps.1))
edge-apart g w price s low cost North columns rows within held is =
    let own = window-held g w low within in
    let y = (place_at g low).y in
    let crossed = rows low cost within (omega (arith, held.y1)) is in
    let gaps = crossed-gap s.rows.items (y - w.y0) (y + 1 - w.y0) cost (omega (arith, own.y0)) crossed in
    (omega (arith, gaps.0), omega (arith, gaps.1))
edge-apart g w price s low cost Up columns rows within held is = (omega arith, omega arith)

ends-apart : (g : Shape) (w : Window) (price : Edge → Option ℕ) (s : Scales) (e : Edge) (a b cost : ℕ) → ArePositions g w price East s.columns.items →
    ArePositions g w price North s.rows.items → IsTrue (in_window g w a) → IsTrue (in_window g w b) → IsTrue (has_edge g e) → e.low ≡ a → high_of g e ≡ b → price e ≡ Some cost →
    AreApart w s (place_at g a) (place_at g b) cost
ends-apart g w price s e a b cost columns rows a_in b_in has low high is =
    let onward : ℕ → Cell = λ c. beyond (place_at g c) e.way in
    let place : ℕ → Cell = λ c. place_at g c in
    let far : place_at g b ≡ beyond (place_at g a) e.way = ap place (sym high) ∙ place-high g e has ∙ ap onward low in
    let H : Cell → Type 0 = λ q. IsHeld w q in
    let A : Cell → Type 0 = λ q. AreApart w s (place_at g a) q cost in
    let price_of : ℕ → Option ℕ = λ n. price (edge_at n e.way) in
    subst A (sym far) (edge-apart g w price s a cost e.way columns rows a_in (subst H far (window-held g w b b_in)) (ap price_of (sym low) ∙ is))

cell-low : (g : Shape) (w : Window) (cell : ℕ) → IsTrue (in_window g w cell) → cell < cells_of g
cell-low g w cell within = grind (arith, nat_tests)

pub scales-of : (g : Shape) (w : Window) (price : Edge → Option ℕ) (s : Scales) → IsWindow g w → length s.columns.items ≡ borders_of w East + 1 →
    length s.rows.items ≡ borders_of w North + 1 → ArePositions g w price East s.columns.items → ArePositions g w price North s.rows.items → AreScales g w price s
scales-of g w price s window columns_size rows_size columns rows = record {
  columns = omega (arith, columns_size, window.columns);
  rows = omega (arith, rows_size, window.rows);
  below = λ u v cost is.
      let whole = chosen-some (in_window g w u && in_window g w v) (option_and_then price (edge_of g u v)) cost is in
      let both = whole.0 in
      let u_in : IsTrue (in_window g w u) = grind (arith, nat_tests) in
      let v_in : IsTrue (in_window g w v) = grind (arith, nat_tests) in
      let found = then-some price (edge_of g u v) cost whole.1 in
      let e = found.0 in
      let joins = at-some (edge_of g u v) e (λ (f : Edge). Joins g f u v) found.1.0 (edge_of-joins g u v (cell-low g w u u_in) (cell-low g w v v_in)) in
      elim (joins.ends) [
        | inl ends ↦ (ends-apart g w price s e u v cost columns rows u_in v_in joins.edge ends.0 ends.1 found.1.1).0
        | inr ends ↦ (ends-apart g w price s e v u cost columns rows v_in u_in joins.edge ends.0 ends.1 found.1.1).1
      ];
}
