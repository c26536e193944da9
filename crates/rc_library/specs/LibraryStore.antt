-- How a library stores what it says.
use Rattle.rc_library.specs.Libraries.{LibraryView, IsLibrary}
use Rattle.rc_library.specs.declared.library.Library.TheInside.{Inside}

-- what the fields say
abbrev pub seen : Inside → LibraryView
seen l = record {
  version = l.version;
  sizes = l.places.sizes;
  wires = l.wires.items;
  via = l.via;
  driver = l.driver;
  sink = l.sink;
  kinds = l.kinds;
  blocked = l.places.blocked;
  drivers = l.places.drivers;
  sinks = l.places.sinks;
  flips = l.places.flips;
}

-- the fields make a library
abbrev pub Keeps : Inside → Type 0
Keeps l = IsLibrary (seen l)
