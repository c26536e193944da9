use Rattle.std.proofs.Common.{◌≡◌, ◌-◌, length, find}
use Rattle.std.specs.List.{range_with_len}
use Rattle.maze_route.specs.Search.{is_marked}
use Rattle.net_plan.specs.Orders.{is_due, next_due}
use Rattle.net_plan.proofs.order.next_due.Given as goal

abbrev pub invariant-loop-point : goal.invariant-loop-point
invariant-loop-point l =
    find (is_due l.topology (is_marked l.handled)) (range_with_len l.point (length l.topology - l.point)) ≡ next_due l.topology (is_marked l.handled)
