-- Each part of the library's grammar depends on the tokens that are read for it.
use Rattle.std.proofs.Common.{ℕ, zero, suc, Bool, Option, List}
use Rattle.gr_base.specs.Designs.{DesignView}
use Rattle.gr_text.specs.Reading.{Reader, ◌>>=◌}
use Rattle.rc_library.specs.Gathered.{Gathered}
use Rattle.rc_library.specs.Items.{wire, sinking, kind, layer, wire_item, via_item, driver_item, sink_item, kind_name, kind_item, block_item, net, pin, drive_item, pin_item, flip_item}
use Rattle.rc_library.specs.LibraryText.{Adds, keyword, item_or_end, items, version, library}
use Rattle.rc_library.specs.declared.fault.LibraryFault.{LibraryFault}
use Rattle.rc_library.specs.declared.fault.LibraryFault.TheVariants.{TooLong}
use Rattle.rc_library.specs.declared.parts.NamedKind.{NamedKind}
use Rattle.rc_library.specs.declared.parts.Wire.{Wire}
use Rattle.rc_library.proofs.ItemsLemmas.{each-word}
use Rattle.text_laws.proofs.EarlyLemmas.{IsEarly, IsCausal, IsEarly-bind, IsCausal-bind, IsEarly-sure, IsSure-pure, IsCausal-pure, IsCausal-check, IsCausal-given, IsCausal-fault, IsCausal-token, IsEarly-end, IsCausal-word, IsCausal-number, IsCausal-natural}

IsCausal-wire : IsCausal wire
unfolding wire
IsCausal-wire = IsCausal-bind _ _ (IsCausal-natural _ _ _) (λ r. IsCausal-bind _ _ (IsCausal-natural _ _ _) (λ c. IsCausal-pure _))

IsCausal-sinking : IsCausal sinking
unfolding sinking
IsCausal-sinking = IsCausal-bind _ _ (IsCausal-natural _ _ _) (λ c. IsCausal-bind _ _ (IsCausal-number _ _ _ _) (λ time. IsCausal-pure _))

IsCausal-kind : IsCausal kind
unfolding kind
IsCausal-kind =
    IsCausal-bind _ _ (IsCausal-natural _ _ _) (λ c. IsCausal-bind _ _ (IsCausal-natural _ _ _) (λ r. IsCausal-bind _ _ (IsCausal-number _ _ _ _) (λ delay. IsCausal-pure _)))

IsCausal-layer : (wires : List (Option Wire)) → IsCausal (layer wires)
unfolding layer
IsCausal-layer wires = IsCausal-bind _ _ (IsCausal-natural _ _ _) (λ at. IsCausal-bind _ _ (IsCausal-check _ _) (λ _. IsCausal-pure _))

IsCausal-kind_name : (kinds : List NamedKind) → IsCausal (kind_name kinds)
unfolding kind_name
IsCausal-kind_name kinds = IsCausal-bind _ _ (IsCausal-token _) (λ name. IsCausal-bind _ _ (IsCausal-check _ _) (λ _. IsCausal-pure _))

IsCausal-net : (d : DesignView) → IsCausal (net d)
unfolding net
IsCausal-net d = IsCausal-bind _ _ (IsCausal-natural _ _ _) (λ id. IsCausal-given _ _)

IsCausal-pin : (d : DesignView) (number : ℕ) → IsCausal (pin d number)
unfolding pin
IsCausal-pin d number = IsCausal-bind _ _ (IsCausal-natural _ _ _) (λ at. IsCausal-bind _ _ (IsCausal-check _ _) (λ _. IsCausal-pure _))

IsCausal-wire_item : (g : Gathered) → IsCausal (wire_item g)
unfolding wire_item
IsCausal-wire_item g = IsCausal-bind _ _ (IsCausal-layer _) (λ at. IsCausal-bind _ _ IsCausal-wire (λ wire. IsCausal-pure _))

IsCausal-via_item : (g : Gathered) → IsCausal (via_item g)
unfolding via_item
IsCausal-via_item g = IsCausal-bind _ _ (IsCausal-check _ _) (λ _. IsCausal-bind _ _ IsCausal-wire (λ via. IsCausal-pure _))

IsCausal-driver_item : (g : Gathered) → IsCausal (driver_item g)
unfolding driver_item
IsCausal-driver_item g = IsCausal-bind _ _ (IsCausal-check _ _) (λ _. IsCausal-bind _ _ (IsCausal-natural _ _ _) (λ driver. IsCausal-pure _))

IsCausal-sink_item : (g : Gathered) → IsCausal (sink_item g)
unfolding sink_item
IsCausal-sink_item g = IsCausal-bind _ _ (IsCausal-check _ _) (λ _. IsCausal-bind _ _ IsCausal-sinking (λ sink. IsCausal-pure _))

IsCausal-kind_item : (inverts : Bool) (g : Gathered) → IsCausal (kind_item inverts g)
unfolding kind_item
IsCausal-kind_item inverts g =
    IsCausal-bind _ _ (IsCausal-check _ _) (λ _. IsCausal-bind _ _ (IsCausal-kind_name _) (λ name. IsCausal-bind _ _ IsCausal-kind (λ kind. IsCausal-pure _)))

IsCausal-block_item : (d : DesignView) (g : Gathered) → IsCausal (block_item d g)
unfolding block_item
IsCausal-block_item d g =
    IsCausal-bind _ _ (IsCausal-natural _ _ _) (λ column. IsCausal-bind _ _ (IsCausal-check _ _) (λ _. IsCausal-bind _ _ (IsCausal-natural _ _ _)
    (λ row. IsCausal-bind _ _ (IsCausal-check _ _) (λ _. IsCausal-pure _))))

IsCausal-drive_item : (d : DesignView) (g : Gathered) → IsCausal (drive_item d g)
unfolding drive_item
IsCausal-drive_item d g = IsCausal-bind _ _ (IsCausal-net d) (λ number. IsCausal-bind _ _ (IsCausal-natural _ _ _) (λ r. IsCausal-pure _))

IsCausal-pin_item : (d : DesignView) (g : Gathered) → IsCausal (pin_item d g)
unfolding pin_item
IsCausal-pin_item d g =
    IsCausal-bind _ _ (IsCausal-net d) (λ number. IsCausal-bind _ _ (IsCausal-pin d number) (λ at. IsCausal-bind _ _ IsCausal-sinking (λ sink. IsCausal-pure _)))

IsCausal-flip_item : (d : DesignView) (g : Gathered) → IsCausal (flip_item d g)
unfolding flip_item
IsCausal-flip_item d g = IsCausal-bind _ _ (IsCausal-net d) (λ number. IsCausal-bind _ _ (IsCausal-pin d number) (λ at. IsCausal-pure _))

IsCausal-keyword : (number : ℕ) → IsCausal (keyword number)
unfolding keyword
IsCausal-keyword number = IsCausal-bind _ _ (IsCausal-token _) (λ found. IsCausal-given _ _)

-- an item and what follows it
IsCausal-next : (d : DesignView) (others : Adds) (g : Gathered) → ((h : Gathered) → IsCausal (others h)) →
    IsCausal (keyword g.version >>= item_or_end d others g)
IsCausal-next d others g then =
    IsCausal-bind _ _ (IsCausal-keyword _) (each-word (λ (make : Adds → Reader LibraryFault Gathered). IsCausal (make others)) d g
    (IsCausal-bind _ _ (IsCausal-wire_item g) then) (IsCausal-bind _ _ (IsCausal-via_item g) then) (IsCausal-bind _ _ (IsCausal-driver_item g) then)
    (IsCausal-bind _ _ (IsCausal-sink_item g) then) (λ inverts. IsCausal-bind _ _ (IsCausal-kind_item inverts g) then)
    (IsCausal-bind _ _ (IsCausal-block_item d g) then) (IsCausal-bind _ _ (IsCausal-drive_item d g) then) (IsCausal-bind _ _ (IsCausal-pin_item d g) then)
    (IsCausal-bind _ _ (IsCausal-flip_item d g) then) (IsCausal-pure g))

IsCausal-items : (count : ℕ) (d : DesignView) (g : Gathered) → IsCausal (items count d g)
unfolding items
IsCausal-items zero d g = IsCausal-fault TooLong
IsCausal-items (suc count) d g = IsCausal-next d (items count d) g (λ h. IsCausal-items count d h)

IsCausal-version : IsCausal version
unfolding version
IsCausal-version = IsCausal-bind _ _ (IsCausal-word _ _ _) (λ _. IsCausal-bind _ _ (IsCausal-token _) (λ found. IsCausal-given _ _))

pub IsEarly-library : (d : DesignView) → IsEarly (library d)
unfolding library
IsEarly-library d =
    IsEarly-bind _ _ IsCausal-version (λ v. IsEarly-bind _ _ (IsCausal-items _ d _) (λ g. IsEarly-bind _ _ (IsCausal-given _ _)
    (λ lib. IsEarly-sure _ _ (IsEarly-end _ _) (λ _. IsSure-pure _))))
