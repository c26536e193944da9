-- How what is gathered of a library's text is stored.
use Rattle.rc_library.specs.Gathered.{Gathered, IsGathered}
use Rattle.rc_library.specs.declared.gathered.Gathered.TheInside.{Inside}

-- what the fields say
abbrev pub seen : Inside → Gathered
seen g = record {
  version = g.version;
  wires = g.wires.items;
  via = g.via;
  driver = g.driver;
  sink = g.sink;
  kinds = g.kinds;
  places = g.places;
}

-- the fields are in range
abbrev pub Keeps : Inside → Type 0
Keeps g = IsGathered (seen g)
