use Rattle.std.proofs.Common.{◌≡◌, ◌*◌, ◌^◌, ◌≤◌}
use Rattle.grid_demand.specs.Listings.{excess_before}
use Rattle.grid_demand.proofs.loads.total_over.Given as goal

abbrev pub invariant-loop-at : goal.invariant-loop-at
invariant-loop-at l = record {
  sum : l.total ≡ excess_before l.demands l.capacities l.at;
  few : l.total ≤ l.at * 2 ^ 64;
}
