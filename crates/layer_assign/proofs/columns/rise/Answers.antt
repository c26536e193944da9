use Rattle.std.proofs.Common.{◌+◌, ◌-◌, refl, ◌∙◌, arith}
use Rattle.layer_assign.proofs.ColumnLemmas.{held-early, risen-none, risen-more, rise-outside, rise-on, near_up, at-shape}
use Rattle.layer_assign.proofs.OrderLemmas.{hung-named, rising-next, rising-end}
use Rattle.layer_assign.proofs.columns.rise.Goals as goal

pub loop-layer-init : goal.loop-layer-init
loop-layer-init c = record {
  so_far = risen-none c.args.tree.now.shape c.args.tree.now c.args.tile c.args.from;
  shape = c.shape-shape.ensures.shape;
  above = omega arith;
  within = c.requires.up;
  same = refl;
}

pub hang-requires-clause-outside : goal.hang-requires-clause-outside
hang-requires-clause-outside c =
    let up = c.requires.up in
    let lt = c.loop-layer-test.true in
    rise-outside c.args.tree.now c.loop-layer.tree c.args.tile c.args.from c.loop-layer.layer c.args.to c.cell_at_level.result c.requires.tile lt c.loop-layer.invariant.above
    (at-shape c.args.tree.now.shape c.shape-shape.result c.args.tile (c.loop-layer.layer + 1) c.cell_at_level.result c.shape-shape.ensures.shape c.cell_at_level.ensures.cell)
    c.requires.free c.loop-layer.invariant.so_far

pub hang-requires-clause-on : goal.hang-requires-clause-on
hang-requires-clause-on c =
    held-early c.loop-layer.tree c.cell_at_level-in-loop-layer.result c.len-end.result
    (rise-on c.args.tree.now c.loop-layer.tree c.args.tile c.args.from c.loop-layer.layer c.cell_at_level-in-loop-layer.result c.requires.tile c.loop-layer.invariant.above
    (at-shape c.args.tree.now.shape c.shape-shape.result c.args.tile c.loop-layer.layer c.cell_at_level-in-loop-layer.result c.shape-shape.ensures.shape c.cell_at_level-in-loop-layer.ensures.cell)
    c.requires.on c.loop-layer.invariant.so_far) c.len-end.ensures.len

pub hang-requires-clause-near : goal.hang-requires-clause-near
hang-requires-clause-near c =
    let lt = c.loop-layer-test.true in
    let top = c.requires.layers in
    near_up c.args.tree.now.shape c.loop-layer.tree.shape c.args.tile c.loop-layer.layer c.cell_at_level.result c.cell_at_level-in-loop-layer.result c.requires.tile (omega arith)
    c.loop-layer.invariant.so_far.shape
    (at-shape c.args.tree.now.shape c.shape-shape.result c.args.tile (c.loop-layer.layer + 1) c.cell_at_level.result c.shape-shape.ensures.shape c.cell_at_level.ensures.cell)
    (at-shape c.args.tree.now.shape c.shape-shape.result c.args.tile c.loop-layer.layer c.cell_at_level-in-loop-layer.result c.shape-shape.ensures.shape c.cell_at_level-in-loop-layer.ensures.cell)

pub loop-layer-preserved : goal.loop-layer-preserved
loop-layer-preserved c =
    let lt = c.loop-layer-test.true in
    let top = c.requires.layers in
    record {
      so_far =
          risen-more c.args.tree.now.shape c.loop-layer.tree.shape c.args.tree.now c.loop-layer.tree c.hang.new.tree c.args.tile c.args.from c.loop-layer.layer c.cell_at_level.result
          c.cell_at_level-in-loop-layer.result c.requires.tile (omega arith) c.loop-layer.invariant.above c.loop-layer.invariant.so_far.shape
          (at-shape c.args.tree.now.shape c.shape-shape.result c.args.tile (c.loop-layer.layer + 1) c.cell_at_level.result c.shape-shape.ensures.shape c.cell_at_level.ensures.cell)
          (at-shape c.args.tree.now.shape c.shape-shape.result c.args.tile c.loop-layer.layer c.cell_at_level-in-loop-layer.result c.shape-shape.ensures.shape
          c.cell_at_level-in-loop-layer.ensures.cell) c.loop-layer.invariant.so_far c.in_ok-hang.ensures.grows;
      shape = c.loop-layer.invariant.shape;
      above = let h = c.loop-layer.invariant.above in omega arith;
      within = omega arith;
      same =
          rising-next c.args.tree.now.shape c.args.tile c.loop-layer.layer (c.args.to - (c.loop-layer.layer + 1)) (c.args.to - c.loop-layer.layer) c.loop-layer.tree c.hang.new.tree (omega arith)
          (hung-named c.loop-layer.tree c.hang.new.tree c.cell_at_level.result c.cell_at_level-in-loop-layer.result _ _ c.in_ok-hang.ensures.nodes
          (at-shape c.args.tree.now.shape c.shape-shape.result c.args.tile (c.loop-layer.layer + 1) c.cell_at_level.result c.shape-shape.ensures.shape c.cell_at_level.ensures.cell)
          (at-shape c.args.tree.now.shape c.shape-shape.result c.args.tile c.loop-layer.layer c.cell_at_level-in-loop-layer.result c.shape-shape.ensures.shape
          c.cell_at_level-in-loop-layer.ensures.cell))
          ∙ c.loop-layer.invariant.same;
    }

pub returns-clause-nodes : goal.returns-clause-nodes
returns-clause-nodes c =
    let end = c.loop-layer-test.false in
    rising-end c.args.tree.now.shape c.args.tile c.loop-layer.layer (c.args.to - c.loop-layer.layer) c.loop-layer.tree (omega arith) ∙ c.loop-layer.invariant.same
