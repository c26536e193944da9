use Rattle.std.proofs.Common.{refl, arith}
use Rattle.net_plan.proofs.WindowLemmas.{box-first, box-more, box-whole}
use Rattle.net_plan.proofs.window.box_of.Goals as goal

pub loop-cell-init : goal.loop-cell-init
loop-cell-init c = box-first c.args.shape c.args.cells.now c.place_of-first.result _ c.requires.some c.place_of-first.ensures.place refl

pub loop-cell-preserved : goal.loop-cell-preserved
loop-cell-preserved c =
    let test = c.loop-cell-test.true in
    box-more c.args.shape c.args.cells.now c.loop-cell.cell-index 0 c.place_of.result c.loop-cell.held c.with-held.result (omega arith) c.place_of.ensures.place
    c.with-held.ensures c.loop-cell.invariant

pub returns : goal.returns
returns c =
    let test = c.loop-cell-test.false in
    box-whole c.args.shape c.args.cells.now c.loop-cell.cell-index c.loop-cell.held (omega arith) c.loop-cell.invariant
