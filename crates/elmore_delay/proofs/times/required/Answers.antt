use Rattle.std.proofs.Common.{◌≡◌, ℕ, ◌-◌, length, map, Option, slice_set, rules, sym, ap, subst, ◌∙◌, arith}
use Rattle.std.proofs.lemmas.Int.{to_z-of_z}
use Rattle.std.specs.Int.{w128}
use Rattle.std.specs.List.{range_with_len}
use mir.Val.{SFits}
use Rattle.gr_base.specs.Trees.{TreeView}
use Rattle.rc_library.specs.declared.parts.Kind.{Kind}
use Rattle.rc_library.specs.declared.parts.Wire.{Wire}
use Rattle.elmore_delay.specs.RcTrees.{RcTree, Buffers}
use Rattle.elmore_delay.specs.FromLeaves.{sinks_seen, along, behind}
use Rattle.elmore_delay.specs.Placements.{buffers_of}
use Rattle.elmore_delay.specs.Loadings.{LoadingView, rc_of}
use Rattle.elmore_delay.specs.declared.seen.Seen.{Seen}
use Rattle.elmore_delay.proofs.RcLemmas.{rc-tree, rc-small, parent-read, no-root_buffer}
use Rattle.elmore_delay.proofs.TimeLemmas.{AreSeen, seen-starts, seen-more, seen-ends, seen-in_range}
use Rattle.elmore_delay.proofs.times.required.Goals as goal

pub loop-node-init : goal.loop-node-init
loop-node-init c =
    let l : LoadingView = c.args.loading.now in
    let same = sym (ap (λ (t : TreeView). length t.nodes) c.requires.tree) in
    seen-starts (rc_of l) (buffers_of l.library c.args.placement.now) c.len-node.result c.in_ok-seen.seen.items (rc-tree l c.driver-driver.ensures.loading) (c.len-node.ensures.len ∙ same)
    (c.in_ok-seen.ensures ∙ ap (λ (n : ℕ). map (sinks_seen (rc_of l)) (range_with_len 0 n)) same)

pub hanging-upper-requires-clause-seen : goal.hanging-upper-requires-clause-seen
hanging-upper-requires-clause-seen c =
    let l : LoadingView = c.args.loading.now in
    let loading = c.driver-driver.ensures.loading in
    let later = c.loop-node-test.true in
    seen-in_range (rc_of l) (buffers_of l.library c.args.placement.now) c.loop-node.node (c.loop-node.node - 1) c.loop-node.seen.items c.index.result.now
    (rc-tree l loading) (rc-small l c.args.placement.now loading) c.loop-node.invariant (omega arith) c.index.ensures

pub loop-node-preserved : goal.loop-node-preserved
loop-node-preserved c =
    let l : LoadingView = c.args.loading.now in
    let t : RcTree = rc_of l in
    let b : Buffers = buffers_of l.library c.args.placement.now in
    let node : ℕ = c.loop-node.node - 1 in
    let later = c.loop-node-test.true in
    let least = c.loop-node.auto.node in
    let parent = parent-read l c.args.tree.now node c.parent-parent.result c.requires.tree c.parent-parent.ensures.parent in
    let upper : c.hanging-upper.result ≡ along (t.wire node) (behind (b node) c.index.result.now) =
    c.hanging-upper.ensures.seen
    ∙ ap (λ (w : Wire). along w (behind c.buffer-kind.result c.index.result.now)) c.wire.ensures.wire
    ∙ ap (λ (o : Option Kind). along (t.wire node) (behind o c.index.result.now)) c.buffer-kind.ensures.buffer in
    subst (λ (s : Seen). AreSeen t b node (slice_set c.loop-node.seen.items c.parent-parent.result s)) (sym c.joined.ensures)
    (seen-more t b c.loop-node.node node c.parent-parent.result c.loop-node.seen.items c.index.result.now c.hanging-upper.result c.index-in-loop-node.result.now
    (rc-tree l c.driver-driver.ensures.loading) c.loop-node.invariant (omega arith) (omega arith) parent c.index.ensures upper c.index-in-loop-node.ensures)

pub joined-requires-clause-load : goal.joined-requires-clause-load
joined-requires-clause-load c =
    let l : LoadingView = c.args.loading.now in
    let loading = c.driver-driver.ensures.loading in
    let later = c.loop-node-test.true in
    let least = c.loop-node.auto.node in
    let earlier = c.parent-parent.ensures.earlier (omega arith) in
    (seen-in_range (rc_of l) (buffers_of l.library c.args.placement.now) c.loop-node.node c.parent-parent.result c.loop-node.seen.items c.index-in-loop-node.result.now
    (rc-tree l loading) (rc-small l c.args.placement.now loading) c.loop-node.invariant (omega arith) c.index-in-loop-node.ensures).load

pub at_driver-requires-clause-seen : goal.at_driver-requires-clause-seen
at_driver-requires-clause-seen c =
    let l : LoadingView = c.args.loading.now in
    let loading = c.driver-driver.ensures.loading in
    let some = c.loop-node.invariant.some in
    seen-in_range (rc_of l) (buffers_of l.library c.args.placement.now) c.loop-node.node 0 c.loop-node.seen.items c.index-2.result.now
    (rc-tree l loading) (rc-small l c.args.placement.now loading) c.loop-node.invariant some c.index-2.ensures

pub returns-clause-required : goal.returns-clause-required
returns-clause-required c =
    let l : LoadingView = c.args.loading.now in
    let loading = c.driver-driver.ensures.loading in
    let some = c.loop-node.invariant.some in
    let end : c.loop-node.node ≡ 1 = omega (arith, some, c.loop-node-test.false) in
    let root = no-root_buffer l.library c.args.placement.now c.at.ensures.placement in
    let fits : SFits w128 c.at_driver.result = search rules in
    to_z-of_z w128 c.at_driver.result fits
    ∙ seen-ends (rc_of l) (buffers_of l.library c.args.placement.now) c.loop-node.node c.driver-driver.result c.loop-node.seen.items c.index-2.result.now c.at_driver.result
    (rc-tree l loading) root c.loop-node.invariant end c.driver-driver.ensures.driver c.index-2.ensures c.at_driver.ensures
