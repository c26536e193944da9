use Rattle.grid_demand.specs.Listings.{Lists}
use Rattle.grid_demand.proofs.overfull.Listing.list_run.Given as goal

abbrev pub invariant-loop-at : goal.invariant-loop-at
invariant-loop-at l = Lists l.demands l.capacities l.self.over.items l.self.places.items l.self.total l.at
