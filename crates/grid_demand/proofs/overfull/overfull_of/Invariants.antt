use Rattle.std.proofs.Common.{◌≡◌, ◌*◌, ◌-◌, min}
use Rattle.grid_demand.specs.Listings.{Lists}
use Rattle.grid_demand.proofs.overfull.overfull_of.Given as goal

abbrev pub invariant-loop-from : goal.invariant-loop-from
invariant-loop-from l = record {
  place : l.from ≡ min l.wires (l.run * 64);
  lists : Lists l.demands l.capacities l.listing.over.items l.listing.places.items l.listing.total l.from;
}

abbrev pub decreases-loop-from : goal.decreases-loop-from
decreases-loop-from l = l.wires - l.from
