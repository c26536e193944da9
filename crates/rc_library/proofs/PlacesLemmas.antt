-- Places of which nothing is said.
use Rattle.std.proofs.Common.{◌≡◌, ℕ, ◌+◌, ◌*◌, ◌≤◌, Bool, false, List, length, take, All, replicate, Option, None, IfSome, get_or, mul-le-mul_left, refl, sym, ap, subst, ◌∙◌, arith}
use Rattle.gr_base.proofs.GridLemmas.{few_cells, some_layers}
use Rattle.std.proofs.lemmas.List.{length-replicate, take_all}
use Rattle.std.proofs.lemmas.List.Elements.{All-replicate}
use Rattle.std.proofs.lemmas.List.FromFn.{get_or-map-range_with_len}
use Rattle.std.proofs.lemmas.List.Sums.{sum_by-take-le}
use Rattle.gr_base.specs.Designs.{DesignView, IsDesign, pins_of}
use Rattle.gr_base.specs.Limits.{most_cells}
use Rattle.gr_base.specs.declared.frame.Net.{Net}
use Rattle.gr_base.specs.declared.grid.Shape.{Shape}
use Rattle.rc_library.specs.Limits.{most_resistance}
use Rattle.rc_library.specs.Libraries.{firsts_of, IsSinking}
use Rattle.rc_library.specs.Gathered.{PlaceNotes, no_places, ArePlaces}
use Rattle.rc_library.specs.declared.parts.Sinking.{Sinking}
use Rattle.rc_library.proofs.LibraryLemmas.{length-firsts}

abbrev no_driver : Option ℕ
no_driver = None

abbrev no_sink : Option Sinking
no_sink = None

few_tiles : (g : Shape) → g.columns * g.rows ≤ most_cells
few_tiles g =
    let all = few_cells g in
    let layers = some_layers g in
    let more : g.columns * g.rows * 1 ≤ g.columns * g.rows * g.layers = mul-le-mul_left (g.columns * g.rows) (omega arith) in
    omega arith

firsts-within : (nets : List Net) → All (λ first. first ≤ pins_of nets) (firsts_of nets)
firsts-within nets number d below =
    let f : ℕ → ℕ = λ n. pins_of (take n nets) in
    let count = length-firsts nets in
    let is = get_or-map-range_with_len f 0 (length nets + 1) number number d (omega arith) (omega arith) in
    let within = sum_by-take-le (λ (n : Net). length n.pins) nets number in
    subst (λ (first : ℕ). first ≤ pins_of nets) (sym is) within

pub ArePlaces-none : (d : DesignView) → IsDesign d → ArePlaces (no_places d)
ArePlaces-none d design = record {
  sized = record {
    tiles = length-replicate (d.frame.shape.columns * d.frame.shape.rows) false;
    nets =
        let drivers = length-replicate (length d.nets) no_driver in
        let firsts = length-firsts d.nets in
        omega arith;
    pins =
        subst (λ (count : ℕ). All (λ first. first ≤ count) (firsts_of d.nets)) (sym (length-replicate (pins_of d.nets) no_sink))
        (firsts-within d.nets);
    same_pins = length-replicate (pins_of d.nets) false ∙ sym (length-replicate (pins_of d.nets) no_sink);
    few_tiles =
        let count = length-replicate (d.frame.shape.columns * d.frame.shape.rows) false in
        let few = few_tiles d.frame.shape in
        omega arith;
    few_pins = let count = length-replicate (pins_of d.nets) no_sink in let few = design.few_pins in omega arith;
  };
  drivers = All-replicate (λ (driver : Option ℕ). IfSome driver (λ r. r ≤ most_resistance)) (length d.nets) None tt;
  sinks = All-replicate (λ (sink : Option Sinking). IfSome sink IsSinking) (pins_of d.nets) None tt;
}

-- the number of all pins stands behind the numbers of the nets' first pins
pub all-pins : (nets : List Net) (number d : ℕ) → number ≡ length nets → get_or (firsts_of nets) number d ≡ pins_of nets
all-pins nets number d is =
    get_or-map-range_with_len (λ (n : ℕ). pins_of (take n nets)) 0 (length nets + 1) number number d (omega arith) (omega arith)
    ∙ ap pins_of (take_all number nets (omega arith))

-- the parts that say nothing make the places of which nothing is said
pub no_places-is : (d : DesignView) (columns rows nets pins : ℕ) (firsts : List ℕ) (blocked flips : List Bool) (drivers : List (Option ℕ)) (sinks : List (Option Sinking)) →
    columns ≡ d.frame.shape.columns → rows ≡ d.frame.shape.rows → nets ≡ length d.nets → pins ≡ pins_of d.nets → firsts ≡ firsts_of d.nets →
    blocked ≡ replicate (columns * rows) false → drivers ≡ replicate nets None → sinks ≡ replicate pins None → flips ≡ replicate pins false →
    ◌≡◌ {A = PlaceNotes}
    (record { sizes = record { columns = columns; rows = rows; firsts = firsts }; blocked = blocked; drivers = drivers; sinks = sinks; flips = flips })
    (no_places d)
no_places-is d columns rows nets pins firsts blocked flips drivers sinks are_columns are_rows are_nets are_pins are_firsts is_blocked is_drivers is_sinks is_flips =
    rw (is_blocked, is_drivers, is_sinks, is_flips, are_columns, are_rows, are_nets, are_pins, are_firsts) refl
