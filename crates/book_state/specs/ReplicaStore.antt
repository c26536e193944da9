-- What the fields of a replica keep.
use Rattle.std.specs.Prelude.{◌≤◌, length}
use Rattle.gr_base.specs.Limits.{most_nets}
use Rattle.grid_demand.specs.LoadSums.{AreLoads}
use Rattle.book_state.specs.Replicas.{ReplicaView}
use Rattle.book_state.specs.declared.replica.Replica.TheInside.{Inside}

-- what the fields say
abbrev pub seen : Inside → ReplicaView
seen r = record { front = r.front; places = r.places; loads = r.loads }

-- there are no more nets than a design may have, and the loads are whole
pub record Keeps (r : Inside) : Type 0 where
  pub few : length r.places ≤ most_nets
  pub loads : AreLoads r.loads
