-- How a library stores what it says of single tiles, nets and pins.
use Rattle.rc_library.specs.Gathered.{PlaceNotes, ArePlaces}
use Rattle.rc_library.specs.declared.places.PlaceNotes.TheInside.{Inside}

-- what the fields say
abbrev pub seen : Inside → PlaceNotes
seen p = record {
  sizes = record { columns = p.columns; rows = p.rows; firsts = p.firsts.items };
  blocked = p.blocked;
  drivers = p.drivers;
  sinks = p.sinks;
  flips = p.flips;
}

-- the fields make places
abbrev pub Keeps : Inside → Type 0
Keeps p = ArePlaces (seen p)
