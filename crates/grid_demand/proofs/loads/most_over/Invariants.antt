use Rattle.std.proofs.Common.{◌≡◌}
use Rattle.grid_demand.proofs.OverfullSteps.{most_before}
use Rattle.grid_demand.proofs.loads.most_over.Given as goal

abbrev pub invariant-loop-at : goal.invariant-loop-at
invariant-loop-at l = l.most ≡ most_before l.demands l.capacities l.at
