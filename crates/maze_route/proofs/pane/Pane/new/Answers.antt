use Rattle.std.proofs.Common.{ℕ, ◌+◌, ◌-◌, ◌≤◌, ◌<◌, ◌*◌, IsTrue, arith}
use Rattle.std.proofs.lemmas.Nat.{mul-le}
use Rattle.std.proofs.lemmas.Bool.Decides.{nat_tests}
use Rattle.gr_base.specs.Limits.{is_grid}
use Rattle.gr_base.specs.declared.grid.Shape.{Shape}
use Rattle.maze_route.proofs.pane.Pane.new.Goals as goal

-- a part of a grid is a grid
part-grid : (g : Shape) (columns rows : ℕ) → 0 < columns → 0 < rows → columns ≤ g.columns → rows ≤ g.rows → IsTrue (is_grid columns rows g.layers)
part-grid g columns rows some_columns some_rows less_columns less_rows =
    let v = g.valid in
    let tiles : columns * rows ≤ g.columns * g.rows = mul-le columns rows g.columns g.rows less_columns less_rows in
    let cells : columns * rows * g.layers ≤ g.columns * g.rows * g.layers = mul-le (columns * rows) g.layers (g.columns * g.rows) g.layers tiles (omega arith) in
    grind (arith, nat_tests)

pub invariant_of-result : goal.invariant_of-result
invariant_of-result c = record {
  valid = part-grid c.args.grid (c.args.window.x1 - c.args.window.x0 + 1) (c.args.window.y1 - c.args.window.y0 + 1)
      (omega (arith, c.requires.columns)) (omega (arith, c.requires.rows)) (omega (arith, c.requires.last_column, c.requires.columns)) (omega (arith, c.requires.last_row, c.requires.rows));
}
