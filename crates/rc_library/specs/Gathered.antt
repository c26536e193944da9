-- What is gathered of a library's text, item by item.
use Rattle.std.specs.Prelude.{◌≡◌, ℕ, ◌+◌, ◌*◌, ◌<◌, ◌≤◌, Bool, true, false, List, [], ◌∷◌, ◌++◌, length, replicate, All, Option, Some, None, IfSome, option_map, slice_set}
use Rattle.gr_base.specs.Designs.{DesignView, pins_of}
use Rattle.rc_library.specs.Limits.{most_resistance}
use Rattle.rc_library.specs.Libraries.{Sizes, sizes_of, pin_number, LibraryView, IsWire, IsSinking, AreKinds, IsSized}
use Rattle.rc_library.specs.declared.parts.Wire.{Wire}
use Rattle.rc_library.specs.declared.parts.Sinking.{Sinking}
use Rattle.rc_library.specs.declared.parts.NamedKind.{NamedKind}

-- what is said of single tiles, nets and pins
pub record PlaceNotes : Type 0 where
  pub sizes : Sizes
  pub blocked : List Bool
  pub drivers : List (Option ℕ)
  pub sinks : List (Option Sinking)
  pub flips : List Bool

-- nothing is said of any tile, net or pin
abbrev pub no_places : DesignView → PlaceNotes
no_places d = record {
  sizes = sizes_of d;
  blocked = replicate (d.frame.shape.columns * d.frame.shape.rows) false;
  drivers = replicate (length d.nets) None;
  sinks = replicate (pins_of d.nets) None;
  flips = replicate (pins_of d.nets) false;
}

-- a tile is blocked; a net has a driver of its own; a net's pin is a sink of its own; a net's pin wants the inverted
-- signal
abbrev pub with_block : (x y : ℕ) → PlaceNotes → PlaceNotes
with_block x y p = record p { blocked = slice_set p.blocked (y * p.sizes.columns + x) true }

abbrev pub with_driver_of : (net r : ℕ) → PlaceNotes → PlaceNotes
with_driver_of net r p = record p { drivers = slice_set p.drivers net (Some r) }

abbrev pub with_sink_of : (net pin : ℕ) → Sinking → PlaceNotes → PlaceNotes
with_sink_of net pin sink p = record p { sinks = slice_set p.sinks (pin_number p.sizes net pin) (Some sink) }

abbrev pub with_flip : (net pin : ℕ) → PlaceNotes → PlaceNotes
with_flip net pin p = record p { flips = slice_set p.flips (pin_number p.sizes net pin) true }

-- a value for each tile, net and pin, and numbers in range
pub record ArePlaces (p : PlaceNotes) : Type 0 where
  pub sized : IsSized p.sizes p.blocked p.drivers p.sinks p.flips
  pub drivers : All (λ driver. IfSome driver (λ r. r ≤ most_resistance)) p.drivers
  pub sinks : All (λ sink. IfSome sink IsSinking) p.sinks

-- what a text has said so far
pub record Gathered : Type 0 where
  pub version : ℕ
  pub wires : List (Option Wire)
  pub via : Option Wire
  pub driver : Option ℕ
  pub sink : Option Sinking
  pub kinds : List NamedKind
  pub places : PlaceNotes

-- nothing but its version
abbrev pub nothing : DesignView → ℕ → Gathered
nothing d version = record {
  version = version;
  wires = replicate d.frame.shape.layers None;
  via = None;
  driver = None;
  sink = None;
  kinds = [];
  places = no_places d;
}

abbrev pub with_wire : ℕ → Wire → Gathered → Gathered
with_wire layer wire g = record g { wires = slice_set g.wires layer (Some wire) }

abbrev pub with_kind : NamedKind → Gathered → Gathered
with_kind kind g = record g { kinds = g.kinds ++ kind ∷ [] }

abbrev pub with_places : PlaceNotes → Gathered → Gathered
with_places places g = record g { places = places }

-- the values, if each is given
abbrev pub all_given : {A : Type 0} → List (Option A) → Option (List A)
all_given [] = Some []
all_given (None ∷ rest) = None
all_given (Some a ∷ rest) = option_map (λ given. a ∷ given) (all_given rest)

abbrev pub library_with : Gathered → List Wire → Wire → ℕ → Sinking → LibraryView
library_with g wires via driver sink = record {
  version = g.version;
  sizes = g.places.sizes;
  wires = wires;
  via = via;
  driver = driver;
  sink = sink;
  kinds = g.kinds;
  blocked = g.places.blocked;
  drivers = g.places.drivers;
  sinks = g.places.sinks;
  flips = g.places.flips;
}

abbrev pub finished_with : Gathered → Option (List Wire) → Option Wire → Option ℕ → Option Sinking →
    Option LibraryView
finished_with g (Some wires) (Some via) (Some driver) (Some sink) = Some (library_with g wires via driver sink)
finished_with g (Some wires) (Some via) (Some driver) None = None
finished_with g (Some wires) (Some via) None sink = None
finished_with g (Some wires) None driver sink = None
finished_with g None via driver sink = None

-- the library, where every layer has its wire, and the via, the driver and the sink are given
abbrev pub finished : Gathered → Option LibraryView
finished g = finished_with g (all_given g.wires) g.via g.driver g.sink

-- numbers in range; what a later version brought is in none of the earlier ones
pub record IsGathered (g : Gathered) : Type 0 where
  pub least : 1 ≤ g.version
  pub greatest : g.version ≤ 3
  pub wires : All (λ wire. IfSome wire IsWire) g.wires
  pub via : IfSome g.via IsWire
  pub driver : IfSome g.driver (λ r. r ≤ most_resistance)
  pub sink : IfSome g.sink IsSinking
  pub kinds : AreKinds g.kinds
  pub places : ArePlaces g.places
  pub no_blocks : g.version < 2 → All (λ blocked. blocked ≡ false) g.places.blocked
  pub no_drivers : g.version < 2 → All (λ driver. driver ≡ None) g.places.drivers
  pub no_sinks : g.version < 2 → All (λ sink. sink ≡ None) g.places.sinks
  pub no_flips : g.version < 3 → All (λ flipped. flipped ≡ false) g.places.flips
  pub no_inverters : g.version < 3 → All (λ kind. kind.inverts ≡ false) g.kinds

-- what was gathered later is of the same version, layers, tiles, nets and pins
pub record IsLike (before after : Gathered) : Type 0 where
  pub version : after.version ≡ before.version
  pub layers : length after.wires ≡ length before.wires
  pub sizes : after.places.sizes ≡ before.places.sizes
  pub nets : length after.places.drivers ≡ length before.places.drivers

-- what was gathered is of a design's layers, tiles, nets and pins
pub record IsOf (d : DesignView) (g : Gathered) : Type 0 where
  pub layers : length g.wires ≡ d.frame.shape.layers
  pub sizes : g.places.sizes ≡ sizes_of d
  pub nets : length g.places.drivers ≡ length d.nets
