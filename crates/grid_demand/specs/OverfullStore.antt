-- What the fields of a table of overfull edges keep.
use Rattle.std.specs.Prelude.{◌≡◌, ◌^◌, ◌<◌, false, length}
use Rattle.grid_demand.specs.Overfull.{OverfullView, told_places}
use Rattle.grid_demand.specs.Planes.{by_number}
use Rattle.grid_demand.specs.declared.overfull.Overfull.TheInside.{Inside}

-- what the fields say
abbrev pub seen : Inside → OverfullView
seen o = record { table = by_number false o.over.items; total = o.total }

-- the list has the places of which the table says so, and they are numbers of 32 bits
pub record Keeps (o : Inside) : Type 0 where
  pub places : o.places.items ≡ told_places (by_number false o.over.items)
  pub few : length o.over.items < 2 ^ 32
