use Rattle.std.proofs.Common.{◌≡◌, ℕ, ◌<◌, ◌*◌, pos, to_z, ◌+◌, length, sym, ap, subst, ◌∙◌, arith}
use Rattle.std.proofs.lemmas.Int.{ints}
use Rattle.std.specs.Int.{w128}
use Rattle.gr_base.specs.Trees.{TreeView}
use Rattle.elmore_delay.specs.RcTrees.{Buffers}
use Rattle.elmore_delay.specs.Placements.{buffers_of}
use Rattle.elmore_delay.specs.Loadings.{LoadingView, rc_of}
use Rattle.elmore_delay.proofs.RcLemmas.{rc-tree, parent-read, no-root_buffer}
use Rattle.elmore_delay.proofs.DelayLemmas.{IsOnPath, path-starts, path-more, path-ends, delay-fits}
use Rattle.elmore_delay.proofs.delay.delay_to.Goals as goal

pub loop-at-init : goal.loop-at-init
loop-at-init c =
    let l : LoadingView = c.args.loading.now in
    let b : Buffers = buffers_of l.library c.args.placement.now in
    let long = ap (λ (t : TreeView). length t.nodes) c.requires.tree in
    let driver = c.from.ensures ∙ c.driver.ensures.driver in
    let load = c.from-2.ensures ∙ c.load_below-driven.ensures.load in
    subst (λ (r : ℕ). IsOnPath (rc_of l) b c.args.node c.args.node (2 * r * c.from-2.result)) (sym driver)
    (path-starts (rc_of l) b c.args.node c.from-2.result (omega (arith, long)) load)

pub overflow_add-delay : goal.overflow_add-delay
overflow_add-delay c =
    let low = delay-fits c.args.loading.now c.args.tree.now c.args.placement.now c.args.node c.loop-at.at c.loop-at.delay c.driver.ensures.loading
    c.requires.tree c.requires.node c.loop-at.invariant in
    omega (arith, low, c.node_delay-delay.ensures.most)

pub loop-at-preserved : goal.loop-at-preserved
loop-at-preserved c =
    let l : LoadingView = c.args.loading.now in
    let b : Buffers = buffers_of l.library c.args.placement.now in
    let parent = parent-read l c.args.tree.now c.loop-at.at c.parent-at.result c.requires.tree c.parent-at.ensures.parent in
    let later : 0 < c.loop-at.at = omega (arith, c.loop-at-test.true) in
    subst (λ (at : ℕ). IsOnPath (rc_of l) b c.args.node at (c.loop-at.delay + c.node_delay-delay.result)) parent
    (subst (λ (d : ℕ). IsOnPath (rc_of l) b c.args.node ((rc_of l).parent c.loop-at.at) (c.loop-at.delay + d)) (sym c.node_delay-delay.ensures.delay)
    (path-more (rc_of l) b c.args.node c.loop-at.at c.loop-at.delay (rc-tree l c.driver.ensures.loading) later c.loop-at.invariant))

pub overflow_cast-result : goal.overflow_cast-result
overflow_cast-result c =
    let low = delay-fits c.args.loading.now c.args.tree.now c.args.placement.now c.args.node c.loop-at.at c.loop-at.delay c.driver.ensures.loading
    c.requires.tree c.requires.node c.loop-at.invariant in
    omega (arith, ints)

pub returns-clause-delay : goal.returns-clause-delay
returns-clause-delay c =
    let l : LoadingView = c.args.loading.now in
    let b : Buffers = buffers_of l.library c.args.placement.now in
    let loading = c.driver.ensures.loading in
    let low = delay-fits c.args.loading.now c.args.tree.now c.args.placement.now c.args.node c.loop-at.at c.loop-at.delay c.driver.ensures.loading
    c.requires.tree c.requires.node c.loop-at.invariant in
    let root = no-root_buffer l.library c.args.placement.now c.at.ensures.placement in
    let is = path-ends (rc_of l) b c.args.node c.loop-at.at c.loop-at.delay (rc-tree l loading) root c.loop-at-test.false c.loop-at.invariant in
    let cast : to_z w128 c.loop-at.delay ≡ pos c.loop-at.delay = omega (arith, ints) in
    cast ∙ ap (λ (n : ℕ). pos n) is
