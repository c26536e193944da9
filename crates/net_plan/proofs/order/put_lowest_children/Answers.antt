use Rattle.std.proofs.Common.{◌≡◌, ℕ, ◌+◌, length, set, get_or, sym, ap, subst, ◌∙◌, arith}
use Rattle.std.proofs.lemmas.List.{get_or_default, length-replicate}
use Rattle.steiner_topology.specs.Topology.{parent_of}
use Rattle.net_plan.specs.Orders.{AreBelowSome}
use Rattle.net_plan.proofs.OrderLemmas.{filled, lowest-first, lowest-more}
use Rattle.net_plan.proofs.order.put_lowest_children.Goals as goal

pub loop-child-init : goal.loop-child-init
loop-child-init c =
    let count = c.len.ensures.len in
    let all = filled c.clear.new.self.items c.len.result c.clear.new.self.len 4294967295 c.clear.ensures.items c.clear.ensures.len in
    let size = ap length (c.in_ok-resize.ensures.items ∙ all) ∙ length-replicate c.len.result 4294967295 in
    lowest-first c.args.topology.now c.resize.new.self.items (size ∙ count)

pub loop-child-preserved : goal.loop-child-preserved
loop-child-preserved c =
    let points = c.args.topology.now in
    let lowest = c.loop-child.lowest.items in
    let child = c.loop-child.child in
    let parent = c.parent-parent.ensures.parent in
    let inside = c.parent-parent.ensures.inside in
    let size = c.loop-child.invariant.size in
    let least = c.min.ensures in
    let read : c.index.result.now ≡ get_or lowest (parent_of points child) 0 =
    c.index.ensures ∙ get_or_default lowest c.parent-parent.result c.index.result.now 0 (omega arith) ∙ ap (λ (k : ℕ). get_or lowest k 0) parent in
    subst (λ (k : ℕ). AreBelowSome points (set lowest k c.min.result) (child + 1)) (sym parent)
    (lowest-more points lowest child c.min.result c.loop-child.invariant (omega arith) (omega arith) (omega arith))

pub returns-clause-lowest : goal.returns-clause-lowest
returns-clause-lowest c =
    let count = c.len-child-end.ensures.len in
    let last = c.loop-child-test.false in
    let end = c.loop-child.auto.child-end in
    subst (λ (n : ℕ). AreBelowSome c.args.topology.now c.loop-child.lowest.items n) (omega arith) c.loop-child.invariant
