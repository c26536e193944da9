use Rattle.std.proofs.Common.{◌≡◌, ℕ, ◌<◌, Bool, true, false, Some, List, get_or, refl, sym, ap, subst, ◌∙◌, arith}
use Rattle.std.proofs.lemmas.List.{get_or_default}
use Rattle.std.proofs.Math.ListN.{set}
use Rattle.maze_route.specs.Search.{is_marked}
use Rattle.net_plan.specs.Orders.{is_due, next_due}
use Rattle.net_plan.proofs.OrderLemmas.{IsUnderWay, open_count, filled, order-first, order-more, order-done, none-below}
use Rattle.net_plan.proofs.order.order_of.Goals as goal
use Rattle.net_plan.proofs.order.order_of.Goals.{After-min-from}

pub loop-point-init : goal.loop-point-init
loop-point-init c = record {
  way = subst (λ (order : List ℕ). IsUnderWay c.args.topology.now order (set c.resize.new.self.items 0 true)) (sym c.clear-2.ensures.items)
      (order-first c.args.topology.now c.resize.new.self.items c.len.result c.len.ensures.tree (c.in_ok-resize.ensures.items ∙ filled c.clear.new.self.items c.len.result _ false c.clear.ensures.items c.clear.ensures.len) c.len.ensures.len);
  none_below = λ point below. absurd (omega arith);
}

-- the point that is found comes next
found : (c : After-min-from) → next_due c.args.topology.now (is_marked c.loop-point.handled.items) ≡ Some c.in-Some.point
found c = ap (λ (marks : List Bool). next_due c.args.topology.now (is_marked marks)) (sym c.deref.ensures.value) ∙ sym c.in-Some.ensures.due

-- what the turn does
turned : (c : After-min-from) → IsUnderWay c.args.topology.now c.push.new.self.items (set c.loop-point.handled.items c.in-Some.point true) ×
    (open_count c.args.topology.now c.push.new.self.items < open_count c.args.topology.now c.loop-point.order.items)
turned c =
    order-more c.args.topology.now c.loop-point.order.items c.push.new.self.items c.loop-point.handled.items (set c.loop-point.handled.items c.in-Some.point true)
    c.in-Some.point c.len.ensures.tree c.loop-point.invariant.way (found c) c.in_ok-push.ensures.items refl

pub loop-point-smaller : goal.loop-point-smaller
loop-point-smaller c = (turned c).1

pub loop-point-preserved : goal.loop-point-preserved
loop-point-preserved c =
    let lowest = c.put_lowest_children.new.lowest.items in
    let below = c.in_ok-put_lowest_children.ensures.lowest in
    let size = below.size in
    let inside = c.in-Some.ensures.inside in
    let least = c.min-from.ensures in
    let read : c.index.result.now ≡ get_or lowest c.in-Some.point 0 =
    c.index.ensures ∙ get_or_default lowest c.in-Some.point c.index.result.now 0 (omega arith) in
    record {
      way = (turned c).0;
      none_below = none-below c.args.topology.now c.loop-point.handled.items lowest c.in-Some.point c.min-from.result below (found c) (omega arith) (omega arith);
    }

pub next_due-requires-clause-none_below : goal.next_due-requires-clause-none_below
next_due-requires-clause-none_below c =
    subst (λ (marks : List Bool). (point : ℕ) → point < c.loop-point.from → is_due c.args.topology.now (is_marked marks) point ≡ false)
    (sym c.deref.ensures.value) c.loop-point.invariant.none_below

pub returns-clause-order : goal.returns-clause-order
returns-clause-order c =
    order-done c.args.topology.now c.loop-point.order.items c.loop-point.handled.items c.len.ensures.tree c.loop-point.invariant.way
    (ap (λ (marks : List Bool). next_due c.args.topology.now (is_marked marks)) (sym c.deref.ensures.value) ∙ sym c.next_due.ensures.due ∙ c.in_default.is)
