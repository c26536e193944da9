use Rattle.std.proofs.Common.{◌-◌, arith}
use Rattle.book_rows.proofs.Lines.{walks-back}
use Rattle.book_rows.proofs.designs.along.Goals as goal

pub attach-requires : goal.attach-requires
attach-requires c =
    let within = c.loop-cell-test.true in
    let from = c.loop-cell.auto.cell in
    let columns = c.columns-cell-end.ensures.columns in
    walks-back c.args.shape c.loop-cell.tree c.loop-cell.cell (c.loop-cell.cell - 1) c.requires.rows c.requires.layers (omega (arith, from)) (omega (arith, within, columns)) c.loop-cell.invariant
