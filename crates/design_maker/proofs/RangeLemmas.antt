-- The ranges of the numbers that a design is made of.
use Rattle.std.proofs.Common.{◌≡◌, ◌*◌, ◌≤◌, true, arith}
use Rattle.std.proofs.lemmas.Bool.Decides.{nat_tests}
use Rattle.gr_base.specs.Limits.{is_grid}
use Rattle.design_maker.specs.Ranges.{IsMade}
use Rattle.design_maker.specs.declared.made.Made.{Made}

pub record IsInRange (made : Made) : Type 0 where
  pub some_columns : 2 ≤ made.columns
  pub few_columns : made.columns ≤ 2048
  pub some_rows : 2 ≤ made.rows
  pub few_rows : made.rows ≤ 2048
  pub some_layers : 2 ≤ made.layers
  pub few_layers : made.layers ≤ 16
  pub few_cells : made.columns * made.rows * made.layers ≤ 8388608
  pub few_nets : made.nets ≤ 1000000

pub in-range : (made : Made) → IsMade made → IsInRange made
in-range made is = record {
  some_columns = grind (arith, nat_tests);
  few_columns = grind (arith, nat_tests);
  some_rows = grind (arith, nat_tests);
  few_rows = grind (arith, nat_tests);
  some_layers = grind (arith, nat_tests);
  few_layers = grind (arith, nat_tests);
  few_cells = grind (arith, nat_tests);
  few_nets = grind (arith, nat_tests);
}

-- there is a grid of so many columns, rows and layers
pub grid-valid : (made : Made) → IsInRange made → is_grid made.columns made.rows made.layers ≡ true
grid-valid made range =
    let a = range.some_columns in
    let b = range.some_rows in
    let c = range.some_layers in
    let d = range.few_layers in
    let e = range.few_cells in
    grind (arith, nat_tests)
