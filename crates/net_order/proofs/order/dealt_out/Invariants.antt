use Rattle.net_order.proofs.DealingLemmas.{AreDealt}
use Rattle.net_order.proofs.order.dealt_out.Given as goal

-- one net of each region is dealt at each place so far
abbrev pub invariant-loop-at : goal.invariant-loop-at
invariant-loop-at l = AreDealt l.at l.regions l.order.items
