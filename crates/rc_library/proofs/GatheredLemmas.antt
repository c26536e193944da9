-- What is gathered of a library's text.
use Rattle.std.proofs.Common.{◌≡◌, ℕ, suc, ◌<◌, ◌≤◌, ◌*◌, ◌⊎◌, inl, inr, Bool, true, false, List, [], ◌∷◌, ◌++◌, length, All, replicate, Option, Some, None, IfSome, IfOk, Result, Ok, Err, option_map, refl, sym, ap, subst, ◌∙◌, arith}
use Rattle.std.proofs.lemmas.Bool.{cases_Bool}
use Rattle.std.proofs.lemmas.List.Elements.{All-nil, All-head, All-tail, All-cons, All-replicate, All-push}
use Rattle.gr_base.specs.Designs.{DesignView, IsDesign, pins_of}
use Rattle.rc_library.specs.Limits.{most_resistance}
use Rattle.rc_library.specs.Libraries.{LibraryView, IsWire, IsSinking, IsLibrary, IsLibraryOf, sizes_of}
use Rattle.rc_library.specs.Gathered.{PlaceNotes, no_places, Gathered, IsGathered, IsOf, nothing, all_given, library_with, finished_with, finished}
use Rattle.rc_library.specs.declared.parts.Wire.{Wire}
use Rattle.rc_library.specs.declared.parts.Sinking.{Sinking}
use Rattle.rc_library.specs.declared.parts.NamedKind.{NamedKind}
use Rattle.rc_library.proofs.LibraryLemmas.{length-drivers}
use Rattle.rc_library.proofs.KindLemmas.{AreKinds-none}
use Rattle.rc_library.proofs.PlacesLemmas.{ArePlaces-none}

pub IsGathered-nothing : (d : DesignView) (version : ℕ) → IsDesign d → 1 ≤ version → version ≤ 3 → IsGathered (nothing d version)
IsGathered-nothing d version design least greatest = record {
  least = least;
  greatest = greatest;
  wires = All-replicate (λ (wire : Option Wire). IfSome wire IsWire) d.frame.shape.layers None tt;
  via = tt;
  driver = tt;
  sink = tt;
  kinds = AreKinds-none;
  places = ArePlaces-none d design;
  no_blocks = λ _. All-replicate (λ (b : Bool). b ≡ false) (d.frame.shape.columns * d.frame.shape.rows) false refl;
  no_drivers = λ _. All-replicate (λ (driver : Option ℕ). driver ≡ None) (length d.nets) None refl;
  no_sinks = λ _. All-replicate (λ (sink : Option Sinking). sink ≡ None) (pins_of d.nets) None refl;
  no_flips = λ _. All-replicate (λ (b : Bool). b ≡ false) (pins_of d.nets) false refl;
  no_inverters = λ _. All-nil (λ (kind : NamedKind). kind.inverts ≡ false);
}

-- a kind that inverts stands in the last version alone
pub no_inverters-push : (version : ℕ) (kinds : List NamedKind) (new : NamedKind) → (new.inverts ≡ true → 3 ≤ version) →
    (version < 3 → All (λ (kind : NamedKind). kind.inverts ≡ false) kinds) →
    version < 3 → All (λ (kind : NamedKind). kind.inverts ≡ false) (kinds ++ new ∷ [])
no_inverters-push version kinds new inverts none early =
    All-push (λ (kind : NamedKind). kind.inverts ≡ false) kinds new (none early) (upright (cases_Bool new.inverts))
  where
    upright : (new.inverts ≡ true) ⊎ (new.inverts ≡ false) → new.inverts ≡ false
    upright (inl is) = absurd (let third = inverts is in omega arith)
    upright (inr is) = is

-- the parts that say nothing make what is gathered at first
pub nothing-is : (d : DesignView) (version layers : ℕ) (wires : List (Option Wire)) (kinds : List NamedKind) (places : PlaceNotes) →
    layers ≡ d.frame.shape.layers → wires ≡ replicate layers None → kinds ≡ [] → places ≡ no_places d →
    ◌≡◌ {A = Gathered}
    (record { version = version; wires = wires; via = None; driver = None; sink = None; kinds = kinds; places = places })
    (nothing d version)
nothing-is d version layers wires kinds places are_layers are_wires are_kinds are_places = rw (are_wires, are_layers, are_kinds, are_places) refl

-- the values of all, each of which is given

more-given : (wire : Wire) (rest : Option (List Wire)) (given : List Wire) → option_map (λ (ws : List Wire). wire ∷ ws) rest ≡ Some given →
    (ws : List Wire) × (rest ≡ Some ws) × (given ≡ wire ∷ ws)
more-given wire None given is = absurd cc
more-given wire (Some ws) given is = (ws, refl, let same : wire ∷ ws ≡ given = cc in sym same)

pub length-given : (wires : List (Option Wire)) (given : List Wire) → all_given wires ≡ Some given → length given ≡ length wires
length-given [] given is = let none : [] ≡ given = cc in ap length (sym none)
length-given (None ∷ wires) given is = absurd cc
length-given (Some wire ∷ wires) given is =
    let rest = more-given wire (all_given wires) given is in
    ap length rest.2 ∙ ap suc (length-given wires rest.0 rest.1)

All-given : (wires : List (Option Wire)) (given : List Wire) → all_given wires ≡ Some given → All (λ wire. IfSome wire IsWire) wires → All IsWire given
All-given [] given is all = let none : [] ≡ given = cc in subst (All IsWire) none (All-nil IsWire)
All-given (None ∷ wires) given is all = absurd cc
All-given (Some wire ∷ wires) given is all =
    let rest = more-given wire (all_given wires) given is in
    let own = All-head (λ (w : Option Wire). IfSome w IsWire) (Some wire) wires all in
    let others = All-given wires rest.0 rest.1 (All-tail (λ (w : Option Wire). IfSome w IsWire) (Some wire) wires all) in
    subst (All IsWire) (sym rest.2) (All-cons IsWire wire rest.0 own others)

-- what was gathered makes a library
pub IsLibrary-finished : (g : Gathered) (wires : List Wire) (via : Wire) (driver : ℕ) (sink : Sinking) → IsGathered g →
    all_given g.wires ≡ Some wires → g.via ≡ Some via → g.driver ≡ Some driver → g.sink ≡ Some sink → IsLibrary (library_with g wires via driver sink)
IsLibrary-finished g wires via driver sink gathered are_wires is_via is_driver is_sink = record {
  least = gathered.least;
  greatest = gathered.greatest;
  sized = gathered.places.sized;
  wires = All-given g.wires wires are_wires gathered.wires;
  via = subst (λ (w : Option Wire). IfSome w IsWire) is_via gathered.via;
  driver = subst (λ (r : Option ℕ). IfSome r (λ r. r ≤ most_resistance)) is_driver gathered.driver;
  sink = subst (λ (s : Option Sinking). IfSome s IsSinking) is_sink gathered.sink;
  kinds = gathered.kinds;
  drivers = gathered.places.drivers;
  sinks = gathered.places.sinks;
  no_blocks = gathered.no_blocks;
  no_drivers = gathered.no_drivers;
  no_sinks = gathered.no_sinks;
  no_flips = gathered.no_flips;
  no_inverters = gathered.no_inverters;
}

from-gathered : (g : Gathered) (wires : Option (List Wire)) (via : Option Wire) (driver : Option ℕ) (sink : Option Sinking) (lib : LibraryView) →
    finished_with g wires via driver sink ≡ Some lib → (lib.sizes ≡ g.places.sizes) × (wires ≡ Some lib.wires)
from-gathered g (Some wires) (Some via) (Some driver) (Some sink) lib is =
    let same : library_with g wires via driver sink ≡ lib = cc in
    (ap (λ (l : LibraryView). l.sizes) (sym same), ap (λ (l : LibraryView). Some l.wires) same)
from-gathered g (Some wires) (Some via) (Some driver) None lib is = absurd cc
from-gathered g (Some wires) (Some via) None sink lib is = absurd cc
from-gathered g (Some wires) None driver sink lib is = absurd cc
from-gathered g None via driver sink lib is = absurd cc

-- where it was gathered for a design, the library is one for the design
pub IsLibraryOf-finished : (d : DesignView) (g : Gathered) (lib : LibraryView) → IsOf d g → IsLibrary lib → finished g ≡ Some lib → IsLibraryOf d lib
IsLibraryOf-finished d g lib of library is =
    let from = from-gathered g (all_given g.wires) g.via g.driver g.sink lib is in
    let sizes : lib.sizes ≡ sizes_of d = from.0 ∙ of.sizes in
    record {
      library = library;
      sizes = sizes;
      layers = length-given g.wires lib.wires from.1 ∙ of.layers;
      nets = length-drivers d lib sizes library.sized.nets;
    }

pub finished-given : {E : Type 0} (d : DesignView) (g : Gathered) (found : Option LibraryView) (result : Result LibraryView E) → IsOf d g →
    found ≡ finished g → IfSome found IsLibrary → IfOk result (λ lib. found ≡ Some lib) → IfOk result (IsLibraryOf d)
finished-given d g found (Ok lib) of is fits given =
    IsLibraryOf-finished d g lib of (subst (λ (l : Option LibraryView). IfSome l IsLibrary) given fits) (sym is ∙ given)
finished-given d g found (Err e) of is fits given = tt
