use Rattle.std.proofs.Common.{ℕ, take, IsTrue}
use Rattle.gr_base.specs.Trees.{is_among}
use Rattle.net_prices.specs.Arcs.{AreLower, IsPaidAt}
use Rattle.net_prices.specs.Levels.{level_of}
use Rattle.net_prices.proofs.arcs.pay_cells.Given as goal

abbrev pub invariant-loop-cell : goal.invariant-loop-cell
invariant-loop-cell l = record {
  lower : AreLower l.fn.left.items l.left.items;
  done : (cell : ℕ) → IsTrue (is_among (take l.cell-index l.cells) cell) →
      IsPaidAt l.levels.shape (level_of l.levels) l.fn.left.items l.left.items cell;
}
