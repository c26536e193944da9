use Rattle.std.proofs.Common.{ℕ, length, add-one, ap, ◌∙◌, arith}
use Rattle.layer_assign.specs.Spans.{growing}
use Rattle.layer_assign.specs.Choices.{entry}
use Rattle.layer_assign.proofs.FlatLemmas.{few, parent-at}
use Rattle.layer_assign.proofs.Following.{span-inside, following-more}
use Rattle.layer_assign.proofs.TableLemmas.{row-within}
use Rattle.layer_assign.proofs.tiles.follow.Goals as goal

pub choice_at-layer-requires-clause-node : goal.choice_at-layer-requires-clause-node
choice_at-layer-requires-clause-node c =
    let many = few c.args.flat.now c.len-node-end.ensures.tree in
    let lt = c.loop-node-test.true in
    let long = c.len-node-end.ensures.len in
    omega arith

pub choice_at-layer-requires-clause-span : goal.choice_at-layer-requires-clause-span
choice_at-layer-requires-clause-span c =
    let e = c.parent.ensures.earlier c.loop-node.invariant.later in
    let lt = c.loop-node-test.true in
    let long = c.len-node-end.ensures.len in
    let so_far = c.loop-node.invariant.so_far in
    (span-inside c.args.shape.layers (length c.args.flat.now.nodes) c.loop-node.spans.items c.parent.result c.index-span.result.now so_far.spans_count (omega arith)
    c.index-span.ensures so_far.within).1

pub choice_at-layer-requires-clause-row : goal.choice_at-layer-requires-clause-row
choice_at-layer-requires-clause-row c =
    let lt = c.loop-node-test.true in
    let long = c.len-node-end.ensures.len in
    row-within c.args.shape.layers (length c.args.flat.now.nodes) c.loop-node.node c.args.choices.now c.requires.rows (omega arith)

pub loop-node-preserved : goal.loop-node-preserved
loop-node-preserved c =
    let e = c.parent.ensures.earlier c.loop-node.invariant.later in
    let lt = c.loop-node-test.true in
    let long = c.len-node-end.ensures.len in
    let so_far = c.loop-node.invariant.so_far in
    let found =
    span-inside c.args.shape.layers (length c.args.flat.now.nodes) c.loop-node.spans.items c.parent.result c.index-span.result.now so_far.spans_count (omega arith)
    c.index-span.ensures so_far.within in
    let up = parent-at c.args.flat.now c.loop-node.node c.parent.result c.parent.ensures.parent in
    let x = c.choice_at-layer.result in
    let is = c.choice_at-layer.ensures in
    let small = c.requires.below c.loop-node.node c.index-span.result.now c.loop-node.invariant.later (omega arith) found.1 in
    record {
      later = omega arith;
      so_far =
          rw add-one
          (following-more (length c.args.flat.now.nodes) c.args.shape.layers c.args.flat.now (growing c.args.spans.now.items) (entry c.args.shape.layers c.args.choices.now)
          c.loop-node.spans.items c.grow_spans.new.spans.items c.loop-node.layers.items c.push-in-loop-node.new.self.items c.loop-node.node x c.index-span.result.now
          c.loop-node.invariant.later (omega arith) (omega arith) (ap (λ (k : ℕ). growing c.loop-node.spans.items k) up ∙ found.0) is (omega (arith, is, small)) c.in_ok-push-2.ensures.items
          c.grow_spans.ensures.count c.grow_spans.ensures.spans c.loop-node.invariant.so_far);
    }
