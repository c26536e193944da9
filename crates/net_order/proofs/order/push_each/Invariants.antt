use Rattle.std.proofs.Common.{◌≡◌, ◌++◌, take}
use Rattle.net_order.specs.Orders.{nets_at}
use Rattle.net_order.proofs.order.push_each.Given as goal

-- the nets of the regions so far are added
abbrev pub invariant-loop-region : goal.invariant-loop-region
invariant-loop-region l = l.order.items ≡ l.fn.order.items ++ nets_at l.at (take l.region-index l.regions)
