use Rattle.std.proofs.Common.{◌≡◌, ℕ, List, ◌∷◌, map, Option, sym, ap, ◌∙◌}
use Rattle.gr_base.specs.declared.grid.Cell.{Cell}
use Rattle.gr_base.specs.declared.grid.Edge.{Edge}
use Rattle.gr_base.specs.declared.grid.Shape.{Shape}
use Rattle.pattern_route.specs.declared.line.Axis.TheVariants.{Columns, Rows}
use Rattle.pattern_route.specs.declared.line.Span.{Span}
use Rattle.pattern_route.specs.Steps.{onward}
use Rattle.pattern_route.specs.Walks.{by_column, by_row, walk_cost, least_of, first_least, flat_walks}
use Rattle.pattern_route.specs.Lines.{span_of, walk_at, walks_by}
use Rattle.pattern_route.proofs.ChoiceLemmas.{least_of-append}
use Rattle.pattern_route.proofs.flat.best_crossing.Goals as goal

-- the first least walk by a column, or by a row, is the flat walk
flat-chosen : (g : Shape) (price : Edge → Option ℕ) (a b : Cell) (columns rows : Span) (column best : List ℕ) →
    columns ≡ span_of Columns a b → rows ≡ span_of Rows a b → column ≡ first_least (walk_cost g price) (walks_by g columns) →
    best ≡ least_of (walk_cost g price) column (walks_by g rows) → best ≡ first_least (walk_cost g price) (flat_walks g a b)
flat-chosen g price a b columns rows column best is_columns is_rows by_columns by_rows =
    let cost : List ℕ → ℕ = walk_cost g price in
    by_rows ∙
    ap (λ w. least_of cost w (walks_by g rows)) by_columns ∙
    ap (λ (s : Span). least_of cost (first_least cost (walks_by g s)) (walks_by g rows)) is_columns ∙
    ap (λ (s : Span). least_of cost (first_least cost (walks_by g (span_of Columns a b))) (walks_by g s)) is_rows ∙
    sym (least_of-append cost (by_column g a b a.x) (map (by_column g a b) (onward a.x b.x)) (map (by_row g a b) (a.y ∷ onward a.y b.y)))

pub returns-clause-first : goal.returns-clause-first
returns-clause-first g c =
    let shape = c.args.shape in
    let price = g.C.Costs.price c.args.costs.now in
    flat-chosen shape price c.args.from c.args.to c.new.result c.new-2.result
    (walk_at shape c.least_crossing-by_column.result) (walk_at shape c.least_with.result) c.new.ensures c.new-2.ensures
    c.least_crossing-by_column.ensures.least c.least_with.ensures.least
