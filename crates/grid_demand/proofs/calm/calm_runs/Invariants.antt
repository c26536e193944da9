use Rattle.std.proofs.Common.{◌≡◌, length}
use Rattle.grid_demand.specs.Listings.{AreCalm}
use Rattle.grid_demand.proofs.calm.calm_runs.Given as goal

abbrev pub invariant-loop-run : goal.invariant-loop-run
invariant-loop-run l = (length l.calm.items ≡ l.run-end) × AreCalm l.demands l.capacities l.calm.items
