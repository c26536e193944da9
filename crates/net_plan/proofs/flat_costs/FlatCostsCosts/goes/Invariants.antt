use Rattle.std.proofs.Common.{◌≡◌, false}
use Rattle.std.specs.List.{range_with_len, list_any}
use Rattle.net_plan.specs.Prices.{ways_of}
use Rattle.net_plan.proofs.flat_costs.FlatCostsCosts.goes.Given as goal

abbrev pub invariant-loop-layer : goal.invariant-loop-layer
invariant-loop-layer g l =
    list_any (λ layer. ways_of l.self.costs.now.capacity.now layer l.way) (range_with_len 0 l.layer) ≡ false
