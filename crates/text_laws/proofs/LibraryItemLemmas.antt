-- Each item of a library text takes a token or more.
use Rattle.std.proofs.Common.{◌≡◌, ℕ, zero, suc, ◌+◌, ◌≤◌, Bool, length, Option, List, refl, arith}
use Rattle.gr_base.specs.Designs.{DesignView}
use Rattle.gr_text.specs.Tokens.{Place}
use Rattle.gr_text.specs.Reading.{Reader, ◌>>=◌}
use Rattle.rc_library.specs.Gathered.{Gathered}
use Rattle.rc_library.specs.Items.{wire, sinking, kind, layer, wire_item, via_item, driver_item, sink_item, kind_name, kind_item, block_item, net, pin, drive_item, pin_item, flip_item}
use Rattle.rc_library.specs.LibraryText.{Adds, keyword, item_or_end, items}
use Rattle.rc_library.specs.declared.fault.LibraryFault.{LibraryFault}
use Rattle.rc_library.specs.declared.parts.NamedKind.{NamedKind}
use Rattle.rc_library.specs.declared.parts.Wire.{Wire}
use Rattle.rc_library.proofs.ItemsLemmas.{each-word}
use Rattle.text_laws.specs.LibraryItems.{ItemsEndWithTheirTokens}
use Rattle.text_laws.proofs.TakingLemmas.{Takes, Takes-bind, Takes-pure, Takes-check, Takes-given, Takes-token, Takes-number, Takes-natural, same-then, same-after}

Takes-wire : Takes 2 wire
unfolding wire
Takes-wire = Takes-bind _ _ (Takes-natural _ _ _) (λ r. Takes-bind _ _ (Takes-natural _ _ _) (λ c. Takes-pure _))

Takes-sinking : Takes 2 sinking
unfolding sinking
Takes-sinking = Takes-bind _ _ (Takes-natural _ _ _) (λ c. Takes-bind _ _ (Takes-number _ _ _ _) (λ time. Takes-pure _))

Takes-kind : Takes 3 kind
unfolding kind
Takes-kind = Takes-bind _ _ (Takes-natural _ _ _) (λ c. Takes-bind _ _ (Takes-natural _ _ _) (λ r. Takes-bind _ _ (Takes-number _ _ _ _) (λ delay. Takes-pure _)))

Takes-layer : (wires : List (Option Wire)) → Takes 1 (layer wires)
unfolding layer
Takes-layer wires = Takes-bind _ _ (Takes-natural _ _ _) (λ at. Takes-bind _ _ (Takes-check _ _) (λ _. Takes-pure _))

Takes-kind_name : (kinds : List NamedKind) → Takes 1 (kind_name kinds)
unfolding kind_name
Takes-kind_name kinds = Takes-bind _ _ (Takes-token _) (λ name. Takes-bind _ _ (Takes-check _ _) (λ _. Takes-pure _))

Takes-net : (d : DesignView) → Takes 1 (net d)
unfolding net
Takes-net d = Takes-bind _ _ (Takes-natural _ _ _) (λ id. Takes-given _ _)

Takes-pin : (d : DesignView) (number : ℕ) → Takes 1 (pin d number)
unfolding pin
Takes-pin d number = Takes-bind _ _ (Takes-natural _ _ _) (λ at. Takes-bind _ _ (Takes-check _ _) (λ _. Takes-pure _))

Takes-wire_item : (g : Gathered) → Takes 3 (wire_item g)
unfolding wire_item
Takes-wire_item g = Takes-bind _ _ (Takes-layer _) (λ at. Takes-bind _ _ Takes-wire (λ wire. Takes-pure _))

Takes-via_item : (g : Gathered) → Takes 2 (via_item g)
unfolding via_item
Takes-via_item g = Takes-bind _ _ (Takes-check _ _) (λ _. Takes-bind _ _ Takes-wire (λ via. Takes-pure _))

Takes-driver_item : (g : Gathered) → Takes 1 (driver_item g)
unfolding driver_item
Takes-driver_item g = Takes-bind _ _ (Takes-check _ _) (λ _. Takes-bind _ _ (Takes-natural _ _ _) (λ driver. Takes-pure _))

Takes-sink_item : (g : Gathered) → Takes 2 (sink_item g)
unfolding sink_item
Takes-sink_item g = Takes-bind _ _ (Takes-check _ _) (λ _. Takes-bind _ _ Takes-sinking (λ sink. Takes-pure _))

Takes-kind_item : (inverts : Bool) (g : Gathered) → Takes 4 (kind_item inverts g)
unfolding kind_item
Takes-kind_item inverts g = Takes-bind _ _ (Takes-check _ _) (λ _. Takes-bind _ _ (Takes-kind_name _) (λ name. Takes-bind _ _ Takes-kind (λ kind. Takes-pure _)))

Takes-block_item : (d : DesignView) (g : Gathered) → Takes 2 (block_item d g)
unfolding block_item
Takes-block_item d g =
    Takes-bind _ _ (Takes-natural _ _ _) (λ column. Takes-bind _ _ (Takes-check _ _) (λ _. Takes-bind _ _ (Takes-natural _ _ _)
    (λ row. Takes-bind _ _ (Takes-check _ _) (λ _. Takes-pure _))))

Takes-drive_item : (d : DesignView) (g : Gathered) → Takes 2 (drive_item d g)
unfolding drive_item
Takes-drive_item d g = Takes-bind _ _ (Takes-net d) (λ number. Takes-bind _ _ (Takes-natural _ _ _) (λ r. Takes-pure _))

Takes-pin_item : (d : DesignView) (g : Gathered) → Takes 4 (pin_item d g)
unfolding pin_item
Takes-pin_item d g = Takes-bind _ _ (Takes-net d) (λ number. Takes-bind _ _ (Takes-pin d number) (λ at. Takes-bind _ _ Takes-sinking (λ sink. Takes-pure _)))

Takes-flip_item : (d : DesignView) (g : Gathered) → Takes 2 (flip_item d g)
unfolding flip_item
Takes-flip_item d g = Takes-bind _ _ (Takes-net d) (λ number. Takes-bind _ _ (Takes-pin d number) (λ at. Takes-pure _))

Takes-keyword : (number : ℕ) → Takes 1 (keyword number)
unfolding keyword
Takes-keyword number = Takes-bind _ _ (Takes-token _) (λ found. Takes-given _ _)

-- what follows an item is read alike by two readers that are alike where fewer tokens are left
same-others : (d : DesignView) (g : Gathered) (place : Place) (one two : Adds) →
    ((h : Gathered) (after : Place) → length after.rest + 1 ≤ length place.rest → one h after ≡ two h after) →
    (keyword g.version >>= item_or_end d one g) place ≡ (keyword g.version >>= item_or_end d two g) place
same-others d g place one two same = same-then (keyword g.version) (item_or_end d one g) (item_or_end d two g) (Takes-keyword g.version) place alike
  where
    alike : (k : _) (behind : Place) → length behind.rest + 1 ≤ length place.rest → item_or_end d one g k behind ≡ item_or_end d two g k behind
    alike k behind less =
        let rest : (h : Gathered) (after : Place) → length after.rest ≤ length behind.rest → one h after ≡ two h after =
        λ h after fewer. same h after (omega arith) in
        each-word (λ (make : Adds → Reader LibraryFault Gathered). make one behind ≡ make two behind) d g
        (same-after _ one two (Takes-wire_item g) behind rest) (same-after _ one two (Takes-via_item g) behind rest)
        (same-after _ one two (Takes-driver_item g) behind rest) (same-after _ one two (Takes-sink_item g) behind rest)
        (λ inverts. same-after _ one two (Takes-kind_item inverts g) behind rest) (same-after _ one two (Takes-block_item d g) behind rest)
        (same-after _ one two (Takes-drive_item d g) behind rest) (same-after _ one two (Takes-pin_item d g) behind rest)
        (same-after _ one two (Takes-flip_item d g) behind rest) refl k

pub items-end : ItemsEndWithTheirTokens
unfolding items
items-end d g place zero other few few_too = absurd (omega arith)
items-end d g place (suc one) zero few few_too = absurd (omega arith)
items-end d g place (suc one) (suc other) few few_too =
    same-others d g place (items one d) (items other d) (λ h after less. items-end d h after one other (omega arith) (omega arith))
