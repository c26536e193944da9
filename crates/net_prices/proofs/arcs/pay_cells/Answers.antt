use Rattle.std.proofs.Common.{refl}
use Rattle.net_prices.specs.Levels.{level_of}
use Rattle.net_prices.proofs.ArcLemmas.{lower-more, one-more-paid}
use Rattle.net_prices.proofs.arcs.pay_cells.Goals as goal

pub loop-cell-preserved : goal.loop-cell-preserved
loop-cell-preserved c = record {
  lower = lower-more c.args.left.now.items c.loop-cell.left.items c.pay_into.new.left.items c.loop-cell.invariant.lower c.pay_into.ensures.lower;
  done = one-more-paid c.args.levels.now.shape (level_of c.args.levels.now) c.args.cells.now c.args.left.now.items c.loop-cell.left.items
      c.pay_into.new.left.items c.loop-cell.cell-index c.loop-cell-test.true c.loop-cell.invariant.lower c.pay_into.ensures.lower
      c.loop-cell.invariant.done (c.if-not-pay_into.ensures.paid refl);
}
