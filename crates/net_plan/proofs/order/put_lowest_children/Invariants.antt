use Rattle.net_plan.specs.Orders.{AreBelowSome}
use Rattle.net_plan.proofs.order.put_lowest_children.Given as goal

abbrev pub invariant-loop-child : goal.invariant-loop-child
invariant-loop-child l = AreBelowSome l.fn.topology l.lowest.items l.child
