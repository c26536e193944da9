use Rattle.std.proofs.Common.{ℕ, ◌<◌, if◌then◌else◌, Option, IsSome, List, length, get_or, add-one, sym, ap, subst, ◌∙◌, arith}
use Rattle.layer_assign.specs.declared.span.Span.{Span}
use Rattle.layer_assign.specs.Spans.{widened, growing, span_by}
use Rattle.layer_assign.specs.Assignments.{ends_at}
use Rattle.layer_assign.proofs.Problems.{pin_span}
use Rattle.layer_assign.proofs.ColumnLemmas.{on_ok-one}
use Rattle.layer_assign.proofs.SpanLemmas.{met-found, met-some}
use Rattle.layer_assign.proofs.tiles.met_spans.Goals as goal

pub whole_spans-requires : goal.whole_spans-requires
whole_spans-requires c = λ node lt.
    let a : ℕ → ℕ = λ k. get_or c.args.layers.now k 0 in
    let end = c.loop-node-test.false in
    let most = c.loop-node.invariant.most in
    let long = c.len-node-end.ensures.len in
    let count = c.loop-node.invariant.count in
    let inside : node < length c.args.flat.now.nodes = let h = ap (λ (xs : List (Option Span)). length xs) c.deref.ensures.value in omega (arith, h, lt, count) in
    subst (λ (o : Option Span). IsSome o)
    (sym (ap (λ (xs : List (Option Span)). growing xs node) c.deref.ensures.value
    ∙ met-found c.args.shape c.args.flat.now c.args.pins.now a c.loop-node.spans.items c.loop-node.node (omega arith) c.loop-node.invariant.spans node inside))
    (met-some c.args.shape c.args.flat.now c.args.pins.now a node c.len-node-end.ensures.tree c.requires.pins inside)

pub loop-node-preserved : goal.loop-node-preserved
loop-node-preserved c =
    let lt = c.loop-node-test.true in
    let long = c.len-node-end.ensures.len in
    let a : ℕ → ℕ = λ k. get_or c.args.layers.now k 0 in
    record {
      later = omega arith;
      most = omega arith;
      count = c.grow_spans.ensures.count;
      spans = λ node below.
          let so_far = c.loop-node.invariant.spans node below in
          let choose : Option Span → ℕ → Option Span = λ s layer. if ends_at c.args.flat.now node c.loop-node.node then widened s layer else s in
          rw add-one
          (c.grow_spans.ensures.spans node below
          ∙ ap (λ (s : Option Span). choose s c.layer.result) so_far
          ∙ ap (λ (k : ℕ). choose (span_by (ends_at c.args.flat.now) (pin_span c.args.shape c.args.flat.now c.args.pins.now) a node c.loop-node.node) k) c.layer.ensures);
    }

pub returns-clause-spans : goal.returns-clause-spans
returns-clause-spans c =
    let a : ℕ → ℕ = λ k. get_or c.args.layers.now k 0 in
    let end = c.loop-node-test.false in
    let most = c.loop-node.invariant.most in
    let long = c.len-node-end.ensures.len in
    let count = c.loop-node.invariant.count in
    let same = ap (λ (xs : List (Option Span)). length xs) c.deref.ensures.value in
    on_ok-one c.whole_spans.result _ _ c.whole_spans.ensures.spans
    (λ each node lt.
    each node (omega (arith, same, lt, count))
    ∙ ap (λ (xs : List (Option Span)). growing xs node) c.deref.ensures.value
    ∙ met-found c.args.shape c.args.flat.now c.args.pins.now a c.loop-node.spans.items c.loop-node.node (omega arith) c.loop-node.invariant.spans node lt)
