-- The nets and pins of a design in a library that was read for it.
use Rattle.std.proofs.Common.{◌≡◌, ℕ, ◌+◌, ◌<◌, ◌≤◌, List, [], ◌∷◌, ◌++◌, length, map, take, Option, Some, None, get_or, refl, sym, ap, subst, ◌∙◌, arith}
use Rattle.std.specs.List.{range_with_len, slice_get, slice_index_or}
use Rattle.std.proofs.lemmas.Option.{slice_get_within, get_or_from_slice_get}
use Rattle.std.proofs.lemmas.List.FromFn.{length-map-range_with_len, get_or-map-range_with_len, map-range_with_len_more}
use Rattle.std.proofs.lemmas.List.Sums.{sum_by_more, sum_by-take-le}
use Rattle.gr_base.specs.Designs.{DesignView, pins_of, pins_in, pins_at}
use Rattle.gr_base.specs.declared.frame.Net.{Net}
use Rattle.rc_library.specs.Libraries.{Sizes, firsts_of, sizes_of, LibraryView, HasPin, IsLibraryOf}

-- the number of a net's first pin is how many pins the nets before it have
pub first-is : (nets : List Net) (net : ℕ) → net ≤ length nets → slice_index_or (firsts_of nets) net 0 ≡ pins_of (take net nets)
first-is nets net within =
    get_or-map-range_with_len (λ (n : ℕ). pins_of (take n nets)) 0 (length nets + 1) net net 0 (omega arith) (omega arith)

pub length-firsts : (nets : List Net) → length (firsts_of nets) ≡ length nets + 1
length-firsts nets = length-map-range_with_len (λ (n : ℕ). pins_of (take n nets)) 0 (length nets + 1)

-- one net more
pub pins-more : (nets : List Net) (number : ℕ) (net : Net) → slice_get nets number ≡ Some net →
    pins_of (take (number + 1) nets) ≡ pins_of (take number nets) + length net.pins
pins-more nets number net found =
    let this : get_or nets number net ≡ net = get_or_from_slice_get nets number net net found in
    sum_by_more (λ (n : Net). length n.pins) nets number net (slice_get_within nets number net found)
    ∙ ap (λ (n : Net). pins_of (take number nets) + length n.pins) this

pub pins-within : (nets : List Net) (number : ℕ) (net : Net) → slice_get nets number ≡ Some net →
    pins_of (take number nets) + length net.pins ≤ pins_of nets
pins-within nets number net found =
    let more = pins-more nets number net found in
    let all = sum_by-take-le (λ (n : Net). length n.pins) nets (number + 1) in
    omega arith

-- the numbers of the nets' first pins, with one more
pub firsts-more : (nets : List Net) (number pins : ℕ) (firsts : List ℕ) →
    firsts ≡ map (λ (n : ℕ). pins_of (take n nets)) (range_with_len 0 number) → pins ≡ pins_of (take number nets) →
    firsts ++ pins ∷ [] ≡ map (λ (n : ℕ). pins_of (take n nets)) (range_with_len 0 (number + 1))
firsts-more nets number pins firsts are is =
    rw (are, is) (sym (map-range_with_len_more (λ (n : ℕ). pins_of (take n nets)) 0 number number (omega arith)))

-- a pin of the design's net is among the pins of all nets
pub pin-of : (d : DesignView) (number pin : ℕ) (net : Net) → slice_get d.nets number ≡ Some net → pin < length net.pins →
    HasPin (sizes_of d) number pin
pin-of d number pin net found within =
    let below : number < length d.nets = slice_get_within d.nets number net found in
    let more = pins-more d.nets number net found in
    let from = first-is d.nets number (omega arith) in
    let to = first-is d.nets (number + 1) (omega arith) in
    omega arith

pub pin-at : (d : DesignView) (number pin : ℕ) → pin < length (pins_at d number) → HasPin (sizes_of d) number pin
pin-at d number pin within = found (slice_get d.nets number) refl within
  where
    found : (net : Option Net) → slice_get d.nets number ≡ net → pin < length (pins_in net) → HasPin (sizes_of d) number pin
    found None is within = absurd (let none : pin < 0 = within in omega arith)
    found (Some net) is within = pin-of d number pin net is within

-- a net of the design has a driver in a library that was read for the design
pub length-drivers : (d : DesignView) (lib : LibraryView) → lib.sizes ≡ sizes_of d → length lib.drivers + 1 ≡ length lib.sizes.firsts →
    length lib.drivers ≡ length d.nets
length-drivers d lib sizes sized =
    let firsts : length lib.sizes.firsts ≡ length (firsts_of d.nets) = ap (λ (s : Sizes). length s.firsts) sizes in
    let count = length-firsts d.nets in
    omega arith

pub has_net : (d : DesignView) (lib : LibraryView) (net : ℕ) → IsLibraryOf d lib → net < length d.nets → net < length lib.drivers
has_net d lib net is within = let nets = is.nets in omega arith

-- and a pin of the design's net is one in it
pub has_pin : (d : DesignView) (lib : LibraryView) (number pin : ℕ) (net : Net) → IsLibraryOf d lib → slice_get d.nets number ≡ Some net →
    pin < length net.pins → HasPin lib.sizes number pin
has_pin d lib number pin net is found within =
    subst (λ (s : Sizes). HasPin s number pin) (sym is.sizes) (pin-of d number pin net found within)
