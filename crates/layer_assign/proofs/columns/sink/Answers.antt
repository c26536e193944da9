use Rattle.std.proofs.Common.{◌≡◌, ℕ, ◌+◌, ◌-◌, refl, sym, subst, ◌∙◌, arith}
use Rattle.layer_assign.proofs.ColumnLemmas.{held-early, Sunk, sunk-none, sunk-more, sink-outside, sink-on, near_down, at-shape}
use Rattle.layer_assign.proofs.OrderLemmas.{hung-named, sinking-next, sinking-end}
use Rattle.layer_assign.proofs.columns.sink.Goals as goal

pub loop-layer-init : goal.loop-layer-init
loop-layer-init c = record {
  so_far = sunk-none c.args.tree.now.shape c.args.tree.now c.args.tile c.args.from;
  shape = c.shape-shape.ensures.shape;
  above = omega arith;
  below = c.requires.down;
  same = refl;
}

pub hang-requires-clause-outside : goal.hang-requires-clause-outside
hang-requires-clause-outside c =
    let lt = c.loop-layer-test.true in
    let h = c.loop-layer.invariant.above in
    let l = c.loop-layer.layer - 1 in
    let one : l + 1 ≡ c.loop-layer.layer = omega arith in
    sink-outside c.args.tree.now c.loop-layer.tree c.args.tile c.args.from l c.args.to c.cell_at_level.result c.requires.tile (omega arith) (omega arith)
    (at-shape c.args.tree.now.shape c.shape-shape.result c.args.tile l c.cell_at_level.result c.shape-shape.ensures.shape c.cell_at_level.ensures.cell)
    c.requires.free (subst (λ (k : ℕ). Sunk c.args.tree.now.shape c.args.tree.now c.loop-layer.tree c.args.tile c.args.from k) (sym one) c.loop-layer.invariant.so_far)

pub hang-requires-clause-on : goal.hang-requires-clause-on
hang-requires-clause-on c =
    let lt = c.loop-layer-test.true in
    let h = c.loop-layer.invariant.above in
    let l = c.loop-layer.layer - 1 in
    let one : l + 1 ≡ c.loop-layer.layer = omega arith in
    held-early c.loop-layer.tree c.cell_at_level-in-loop-layer.result c.len-end.result
    (sink-on c.args.tree.now c.loop-layer.tree c.args.tile c.args.from l c.cell_at_level-in-loop-layer.result c.requires.tile (omega arith)
    (at-shape c.args.tree.now.shape c.shape-shape.result c.args.tile (l + 1) c.cell_at_level-in-loop-layer.result c.shape-shape.ensures.shape c.cell_at_level-in-loop-layer.ensures.cell)
    c.requires.on (subst (λ (k : ℕ). Sunk c.args.tree.now.shape c.args.tree.now c.loop-layer.tree c.args.tile c.args.from k) (sym one) c.loop-layer.invariant.so_far)) c.len-end.ensures.len

pub hang-requires-clause-near : goal.hang-requires-clause-near
hang-requires-clause-near c =
    let lt = c.loop-layer-test.true in
    let h = c.loop-layer.invariant.above in
    let top = c.requires.layers in
    let l = c.loop-layer.layer - 1 in
    near_down c.args.tree.now.shape c.loop-layer.tree.shape c.args.tile l c.cell_at_level.result c.cell_at_level-in-loop-layer.result c.requires.tile (omega arith)
    c.loop-layer.invariant.so_far.shape
    (at-shape c.args.tree.now.shape c.shape-shape.result c.args.tile l c.cell_at_level.result c.shape-shape.ensures.shape c.cell_at_level.ensures.cell)
    (at-shape c.args.tree.now.shape c.shape-shape.result c.args.tile (l + 1) c.cell_at_level-in-loop-layer.result c.shape-shape.ensures.shape c.cell_at_level-in-loop-layer.ensures.cell)

pub loop-layer-preserved : goal.loop-layer-preserved
loop-layer-preserved c =
    let lt = c.loop-layer-test.true in
    let h = c.loop-layer.invariant.above in
    let top = c.requires.layers in
    let l = c.loop-layer.layer - 1 in
    let one : l + 1 ≡ c.loop-layer.layer = omega arith in
    record {
      so_far =
          sunk-more c.args.tree.now.shape c.loop-layer.tree.shape c.args.tree.now c.loop-layer.tree c.hang.new.tree c.args.tile c.args.from l c.cell_at_level.result
          c.cell_at_level-in-loop-layer.result c.requires.tile (omega arith) (omega arith) c.loop-layer.invariant.so_far.shape
          (at-shape c.args.tree.now.shape c.shape-shape.result c.args.tile l c.cell_at_level.result c.shape-shape.ensures.shape c.cell_at_level.ensures.cell)
          (at-shape c.args.tree.now.shape c.shape-shape.result c.args.tile (l + 1) c.cell_at_level-in-loop-layer.result c.shape-shape.ensures.shape
          c.cell_at_level-in-loop-layer.ensures.cell)
          (subst (λ (k : ℕ). Sunk c.args.tree.now.shape c.args.tree.now c.loop-layer.tree c.args.tile c.args.from k) (sym one) c.loop-layer.invariant.so_far) c.in_ok-hang.ensures.grows;
      shape = c.loop-layer.invariant.shape;
      above = omega arith;
      below = omega arith;
      same =
          sinking-next c.args.tree.now.shape c.args.tile c.args.to (l - c.args.to) (c.loop-layer.layer - c.args.to) l c.loop-layer.tree c.hang.new.tree (omega arith) (omega arith)
          (hung-named c.loop-layer.tree c.hang.new.tree c.cell_at_level.result c.cell_at_level-in-loop-layer.result _ _ c.in_ok-hang.ensures.nodes
          (at-shape c.args.tree.now.shape c.shape-shape.result c.args.tile l c.cell_at_level.result c.shape-shape.ensures.shape c.cell_at_level.ensures.cell)
          (at-shape c.args.tree.now.shape c.shape-shape.result c.args.tile (l + 1) c.cell_at_level-in-loop-layer.result c.shape-shape.ensures.shape
          c.cell_at_level-in-loop-layer.ensures.cell))
          ∙ c.loop-layer.invariant.same;
    }

pub returns-clause-nodes : goal.returns-clause-nodes
returns-clause-nodes c =
    let end = c.loop-layer-test.false in
    let below = c.loop-layer.invariant.below in
    sinking-end c.args.tree.now.shape c.args.tile c.args.to (c.loop-layer.layer - c.args.to) c.loop-layer.tree (omega arith) ∙ c.loop-layer.invariant.same
