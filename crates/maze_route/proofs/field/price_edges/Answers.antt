use Rattle.std.proofs.Common.{ℕ, ◌*◌, ap, arith}
use Rattle.maze_route.proofs.FieldLemmas.{lines-priced}
use Rattle.maze_route.proofs.field.price_edges.Goals as goal

pub returns : goal.returns
returns g c =
    let by_rows = ap (λ (n : ℕ). n * c.layers.result) c.rows.ensures.rows in
    let by_layers = ap (λ (n : ℕ). c.args.pane.shape.rows * n) c.layers.ensures.layers in
    let table = lines-priced c.args.pane (g.C.Costs.price c.args.costs.now) c.args.way c.loop-line.line c.loop-line.prices.items
    (omega (arith, c.loop-line-test.false, by_rows, by_layers)) c.loop-line.invariant in
    record { table = table }
