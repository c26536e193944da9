-- What a library answers for any net, pin, edge and kind is in range.
use Rattle.std.proofs.Common.{◌≡◌, ℕ, zero, suc, ◌≤◌, inl, inr, Bool, true, false, List, [], ◌∷◌, All, length, get_or, Option, Some, None, IfSome, unwrap_or, if◌then◌else◌, slice_get, sym, subst, arith}
use Rattle.std.proofs.lemmas.Bool.{cases_lt}
use Rattle.std.proofs.lemmas.List.{get_or_past}
use Rattle.std.proofs.lemmas.Option.{none-some, same_Some}
use Rattle.std.specs.Option.{option_map}
use Rattle.rc_library.specs.declared.parts.NamedKind.{NamedKind}
use Rattle.gr_base.specs.Grid.{place_at, is_wire}
use Rattle.gr_base.specs.declared.grid.Edge.{Edge}
use Rattle.gr_base.specs.declared.grid.Shape.{Shape}
use Rattle.rc_library.specs.Libraries.{LibraryView, IsLibrary, IsWire, IsSinking, IsKind, driver_of, sink_of, pin_number, kind_of}
use Rattle.rc_library.specs.Limits.{most_resistance}
use Rattle.rc_library.specs.declared.parts.Kind.{Kind}
use Rattle.elmore_delay.specs.Loadings.{no_wire, wire_of}

-- what holds of each element, and of the default, holds of what is read
read-fits : {A : Type 0} (P : A → Type 0) (xs : List A) (at : ℕ) (default : A) → P default → All P xs → P (get_or xs at default)
read-fits {A = A} P xs at default one each =
    elim (cases_lt at (length xs)) [
      | inl here ↦ each at default here
      | inr past ↦ subst P (sym (get_or_past xs at default past)) one
    ]

-- what holds of each value of one's own, and of the one for all, holds of the one that counts
own-fits : {A : Type 0} (P : A → Type 0) (all : A) (own : List (Option A)) (at : ℕ) → P all → All (λ o. IfSome o P) own →
    P (unwrap_or (get_or own at None) all)
own-fits {A = A} P all own at one each = either (get_or own at None) (read-fits (λ (o : Option A). IfSome o P) own at None tt each)
  where
    either : (o : Option A) → IfSome o P → P (unwrap_or o all)
    either None some = one
    either (Some value) some = some

slice_get-fits : (kinds : List NamedKind) (number : ℕ) → All (λ n. IsKind n.kind) kinds → IfSome (slice_get kinds number) (λ n. IsKind n.kind)
slice_get-fits [] number each = tt
slice_get-fits (n ∷ kinds) zero each = each 0 n (omega arith)
slice_get-fits (n ∷ kinds) (suc number) each = slice_get-fits kinds number (λ k d below. each (suc k) d (omega arith))

pub sink-fits : (lib : LibraryView) (net pin : ℕ) → IsLibrary lib → IsSinking (sink_of lib net pin)
sink-fits lib net pin is = own-fits IsSinking lib.sink lib.sinks (pin_number lib.sizes net pin) is.sink is.sinks

pub driver-fits : (lib : LibraryView) (net : ℕ) → IsLibrary lib → driver_of lib net ≤ most_resistance
driver-fits lib net is = own-fits (λ r. r ≤ most_resistance) lib.driver lib.drivers net is.driver is.drivers

pub wire-fits : (lib : LibraryView) (g : Shape) (o : Option Edge) → IsLibrary lib → IsWire (wire_of lib g o)
wire-fits lib g None is = record { r = omega arith; c = omega arith }
wire-fits lib g (Some e) is =
    either (is_wire e) (read-fits IsWire lib.wires (place_at g e.low).layer no_wire (record { r = omega arith; c = omega arith }) is.wires) is.via
  where
    either : (b : Bool) → IsWire (get_or lib.wires (place_at g e.low).layer no_wire) → IsWire lib.via →
        IsWire (if b then get_or lib.wires (place_at g e.low).layer no_wire else lib.via)
    either true wire via = wire
    either false wire via = via

pub kind-fits : (lib : LibraryView) (number : ℕ) (kind : Kind) → IsLibrary lib → kind_of lib number ≡ Some kind → IsKind kind
kind-fits lib number kind is named = at (slice_get lib.kinds number) (slice_get-fits lib.kinds number is.kinds.each) named
  where
    at : (o : Option NamedKind) → IfSome o (λ n. IsKind n.kind) → option_map (λ (n : NamedKind). n.kind) o ≡ Some kind → IsKind kind
    at None each is_some = absurd (none-some kind is_some)
    at (Some n) each is_some = subst IsKind (same_Some n.kind kind is_some) each
