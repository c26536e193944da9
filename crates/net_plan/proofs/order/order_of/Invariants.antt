use Rattle.std.proofs.Common.{◌≡◌, ℕ, ◌<◌, false}
use Rattle.maze_route.specs.Search.{is_marked}
use Rattle.net_plan.specs.Orders.{is_due}
use Rattle.net_plan.proofs.OrderLemmas.{IsUnderWay, open_count}
use Rattle.net_plan.proofs.order.order_of.Given as goal

abbrev pub invariant-loop-point : goal.invariant-loop-point
invariant-loop-point l = record {
  way : IsUnderWay l.topology l.order.items l.handled.items;
  none_below : (point : ℕ) → point < l.from → is_due l.topology (is_marked l.handled.items) point ≡ false;
}

abbrev pub decreases-loop-point : goal.decreases-loop-point
decreases-loop-point l = open_count l.topology l.order.items
