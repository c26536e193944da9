use Rattle.std.proofs.Common.{◌+◌, length, sym, ap, ◌∙◌, arith}
use Rattle.gr_base.specs.Trees.{TreeView}
use Rattle.elmore_delay.specs.RcTrees.{Buffers}
use Rattle.elmore_delay.specs.Placements.{buffers_of}
use Rattle.elmore_delay.specs.Loadings.{LoadingView, rc_of}
use Rattle.elmore_delay.proofs.RcLemmas.{rc-tree, rc-small}
use Rattle.elmore_delay.proofs.DelayLemmas.{load_to-start, load_to-in, load_to-out, load_to-end, load_to-low}
use Rattle.elmore_delay.proofs.delay.load_below.Goals as goal
use Rattle.elmore_delay.proofs.delay.load_below.Goals.{then-in_stage, else-in_stage}

pub overflow_step-node : goal.overflow_step-node
overflow_step-node c =
    let l : LoadingView = c.args.loading.now in
    let long = ap (λ (t : TreeView). length t.nodes) c.requires.tree in
    let few = (rc-small l c.args.placement.now c.load-load.ensures.loading).few_nodes in
    omega (arith, long, few)

pub loop-node-init : goal.loop-node-init
loop-node-init c =
    let l : LoadingView = c.args.loading.now in
    let b : Buffers = buffers_of l.library c.args.placement.now in
    let long = ap (λ (t : TreeView). length t.nodes) c.requires.tree in
    c.load-load.ensures.load ∙ load_to-start (rc_of l) b c.args.v (c.args.v + 1) (rc-tree l c.load-load.ensures.loading) (omega (arith, long)) (omega arith)

pub loop-node-preserved : goal.loop-node-preserved
loop-node-preserved c =
    let l : LoadingView = c.args.loading.now in
    let b : Buffers = buffers_of l.library c.args.placement.now in
    elim c.if-in_stage.branch [
      | then-in_stage w ↦
          let more = load_to-in (rc_of l) b c.args.v c.loop-node.node (sym w.if-in_stage.true ∙ c.in_stage.ensures) in
          omega (arith, more, w.load-is, w.own_load-load.ensures, c.loop-node.invariant)
      | else-in_stage w ↦ w.load-is ∙ c.loop-node.invariant ∙ load_to-out (rc_of l) b c.args.v c.loop-node.node (sym w.if-in_stage.false ∙ c.in_stage.ensures)
    ]

pub overflow_add-load : goal.overflow_add-load
overflow_add-load c =
    let l : LoadingView = c.args.loading.now in
    let b : Buffers = buffers_of l.library c.args.placement.now in
    let long = ap (λ (t : TreeView). length t.nodes) c.requires.tree in
    let loading = c.load-load.ensures.loading in
    let more = load_to-in (rc_of l) b c.args.v c.loop-node.node (sym c.if-in_stage.true ∙ c.in_stage.ensures) in
    let low = load_to-low (rc_of l) b c.args.v (c.loop-node.node + 1) (rc-tree l loading) (rc-small l c.args.placement.now loading)
    (omega (arith, long)) (omega (arith, long, c.loop-node-test.true, c.len-node-end.ensures.len)) in
    omega (arith, more, low, c.own_load-load.ensures, c.loop-node.invariant)

pub returns-clause-load : goal.returns-clause-load
returns-clause-load c =
    let l : LoadingView = c.args.loading.now in
    let b : Buffers = buffers_of l.library c.args.placement.now in
    let long = ap (λ (t : TreeView). length t.nodes) c.requires.tree in
    let most = c.loop-node.auto.node-end (omega (arith, long)) in
    c.loop-node.invariant ∙ load_to-end (rc_of l) b c.args.v c.loop-node.node (omega (arith, long, c.loop-node-test.false))

pub returns-clause-most : goal.returns-clause-most
returns-clause-most c =
    let l : LoadingView = c.args.loading.now in
    let b : Buffers = buffers_of l.library c.args.placement.now in
    let long = ap (λ (t : TreeView). length t.nodes) c.requires.tree in
    let loading = c.load-load.ensures.loading in
    let most = c.loop-node.auto.node-end (omega (arith, long)) in
    let low = load_to-low (rc_of l) b c.args.v c.loop-node.node (rc-tree l loading) (rc-small l c.args.placement.now loading) (omega (arith, long)) (omega (arith, long)) in
    omega (arith, low, c.loop-node.invariant)
