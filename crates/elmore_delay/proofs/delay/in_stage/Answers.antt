use Rattle.std.proofs.Common.{ℕ, Option, length, is_some, sym, ap, subst, ◌∙◌, arith}
use Rattle.gr_base.specs.Trees.{TreeView}
use Rattle.rc_library.specs.declared.parts.Kind.{Kind}
use Rattle.elmore_delay.specs.RcTrees.{Buffers}
use Rattle.elmore_delay.specs.Placements.{buffers_of}
use Rattle.elmore_delay.specs.Loadings.{LoadingView, rc_of}
use Rattle.elmore_delay.proofs.RcLemmas.{rc-tree, parent-read}
use Rattle.elmore_delay.proofs.DelayLemmas.{IsClimb, climb-starts, climb-more, climb-ends}
use Rattle.elmore_delay.proofs.delay.in_stage.Goals as goal

pub loop-at-init : goal.loop-at-init
loop-at-init c =
    let l : LoadingView = c.args.loading.now in
    let b : Buffers = buffers_of l.library c.args.placement.now in
    let long = ap (λ (t : TreeView). length t.nodes) c.requires.tree in
    subst (λ (at : ℕ). IsClimb (rc_of l) b c.args.v c.args.node at) (parent-read l c.args.tree.now c.args.node c.parent-at.result c.requires.tree c.parent-at.ensures.parent)
    (climb-starts (rc_of l) b c.args.v c.args.node (rc-tree l c.requires.loading) (omega arith) (omega (arith, long)))

pub loop-at-preserved : goal.loop-at-preserved
loop-at-preserved c =
    let l : LoadingView = c.args.loading.now in
    let b : Buffers = buffers_of l.library c.args.placement.now in
    subst (λ (at : ℕ). IsClimb (rc_of l) b c.args.v c.args.node at)
    (parent-read l c.args.tree.now c.loop-at.at c.parent-at-in-loop-at.result c.requires.tree c.parent-at-in-loop-at.ensures.parent)
    (climb-more (rc_of l) b c.args.v c.args.node c.loop-at.at (rc-tree l c.requires.loading) c.loop-at.invariant c.loop-at-test.true
    (c.if-is_some.ensures ∙ ap (λ (o : Option Kind). is_some o) c.buffer.ensures.buffer))

pub returns : goal.returns
returns c =
    let l : LoadingView = c.args.loading.now in
    let b : Buffers = buffers_of l.library c.args.placement.now in
    sym (climb-ends (rc_of l) b c.args.v c.args.node c.loop-at.at (rc-tree l c.requires.loading) c.loop-at.invariant (omega arith))
