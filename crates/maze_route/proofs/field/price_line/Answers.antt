use Rattle.std.proofs.Common.{◌*◌, ◌%◌, refl, sym, subst, ◌∙◌, arith}
use Rattle.maze_route.specs.Runs.{AreSideBySide}
use Rattle.cost_rules.specs.Prices.{ArePrices}
use Rattle.gr_base.specs.declared.grid.Shape.{Shape}
use Rattle.gr_base.specs.Grid.{edge_at}
use Rattle.gr_base.proofs.GridLemmas.{few_cells}
use Rattle.maze_route.proofs.FieldLemmas.{few-edges, line-beside, line-priced, line-none, line-ends}
use Rattle.maze_route.proofs.field.price_line.Goals as goal

pub returns-then-not-goes : goal.returns-then-not-goes
returns-then-not-goes g c =
    let ways = g.C.Costs.ways c.args.costs.now in
    let price = g.C.Costs.price c.args.costs.now in
    let after = line-none c.args.pane ways price c.args.way c.args.line c.args.prices.now.items
    (subst (λ (s : Shape). ArePrices s ways price) c.requires.grid (g.met.C.Costs.prices c.args.costs.now)) c.requires.line (sym c.goes.ensures.ways ∙ c.if-not-goes.true) c.requires.before in
    record { after = after }

pub overflow_mul-first : goal.overflow_mul-first
overflow_mul-first g c =
    let few = few_cells c.args.pane.shape in
    let ends = line-ends c.args.pane c.args.line c.requires.line in
    omega (arith, few, ends)

pub price_run-requires : goal.price_run-requires
price_run-requires g c =
    let p = c.args.pane in
    let ways = g.C.Costs.ways c.args.costs.now in
    let ends = line-ends p c.args.line c.requires.line in
    let few = few-edges p c.args.way (c.args.line % p.shape.rows) in
    record {
      edges = subst (λ (s : Shape). AreSideBySide s ways (edge_at c.cell_of-low.result c.args.way) c.edges_in_line-count.result) (sym c.requires.grid)
          (line-beside p ways c.args.way c.args.line c.cell_of-low.result c.edges_in_line-count.result c.requires.wire c.requires.line c.cell_of-low.ensures.number
          c.edges_in_line-count.ensures (sym c.goes.ensures.ways ∙ c.if-not-goes.false));
      inside = omega (arith, few, ends, c.edges_in_line-count.ensures, c.requires.before.size);
    }

pub returns : goal.returns
returns g c =
    let after = line-priced c.args.pane (g.C.Costs.price c.args.costs.now) c.args.way c.args.line c.cell_of-low.result (c.args.line * c.args.pane.shape.columns) c.edges_in_line-count.result
    c.args.prices.now.items c.price_run.new.prices.items c.requires.wire c.requires.line c.cell_of-low.ensures.number refl c.edges_in_line-count.ensures c.requires.before c.price_run.ensures in
    record { after = after }
