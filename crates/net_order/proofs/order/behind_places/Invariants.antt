use Rattle.std.proofs.Common.{◌≡◌, map, take}
use Rattle.net_order.specs.Orders.{net_in}
use Rattle.net_order.proofs.order.behind_places.Given as goal

abbrev pub invariant-loop-net : goal.invariant-loop-net
invariant-loop-net l = map net_in l.placed.items ≡ take l.net-index l.nets
