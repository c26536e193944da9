-- A payment raises what was paid.
use Rattle.std.proofs.Common.{◌≡◌, ℕ, ◌+◌, ◌-◌, ◌<◌, ◌≤◌, inl, inr, nat_lt, map, Bool, true, false, List, [], ◌∷◌, Option, Some, None, slice_get, length, slice_index, All, IsTrue, if◌then◌else◌, refl, sym, ap, subst, ◌∙◌, arith}
use Rattle.std.proofs.lemmas.Bool.{cases_Bool, false≢true}
use Rattle.std.proofs.lemmas.Bool.Decides.{nat_tests}
use Rattle.gr_base.specs.Designs.{DesignView, IsDesign, is_routed, is_routed_net, pins_at, pins_in}
use Rattle.gr_base.specs.EdgeSets.{Edges}
use Rattle.gr_base.specs.Grid.{cells_of, edge_at, stride, high_of, has_edge, is_wire}
use Rattle.gr_base.specs.Trees.{is_among}
use Rattle.gr_base.specs.declared.frame.Net.{Net}
use Rattle.gr_base.specs.declared.grid.Edge.{Edge}
use Rattle.gr_base.specs.declared.grid.Shape.{Shape}
use Rattle.gr_base.proofs.GridLemmas.{edge-low, high-below}
use Rattle.net_prices.specs.Arcs.{nothing, arc_of, arcs_in, level_at, AreLower, ArePaid}
use Rattle.net_prices.specs.Folds.{folded, tile_of, IsFoldOf}
use Rattle.net_prices.specs.Payments.{HasArcs, IsRaised}
use Rattle.net_prices.specs.PriceTables.{allowed_by, prices_by, ArePrices}
use Rattle.net_prices.specs.Pricers.{PricerView}
use Rattle.net_prices.specs.declared.rates.Rates.{Rates}
use Rattle.net_prices.proofs.FoldLemmas.{among-folds, arcs-lower, folds-below, via-tile, wire-edge, wire-high}
use Rattle.price_laws.specs.Prices.{Prices, IsNetBound}
use Rattle.price_laws.specs.Ranks.{IsPaid, IsLeft, IsTaken, fall, uphill}
use Rattle.price_laws.proofs.EdgeSums.{set-le}
use Rattle.wall_laws.proofs.OverflowLemmas.{pins-inside}
use Rattle.price_laws.proofs.PayLemmas.{paid-law, paying-law, unpaid-law}

-- what falls along the arcs into each cell of a grid falls along each edge of it
arc-taken : (g : Shape) (level : ℕ → ℕ) (old new : List ℕ) → ArePaid g level old new → (e : Edge) → IsTrue (has_edge g e) → (up : Bool) →
    slice_index old (arc_of g e up) < nothing → slice_index new (arc_of g e up) + fall g level e up ≤ slice_index old (arc_of g e up)
arc-taken g level old new paid e edge true some =
    let back : high_of g e - stride g e.way ≡ e.low = omega arith in
    let same : level (high_of g e - stride g e.way) ≡ level e.low = ap level back in
    let is = (paid (high_of g e) (high-below g e edge)).up e.way (omega arith) some in
    omega (arith, is, same)
arc-taken g level old new paid e edge false some = (paid e.low (edge-low g e edge)).down e.way (high-below g e edge) some

-- what is asked where an edge is a wire edge
wire-below : (wire : Bool) (x n : ℕ) → wire ≡ true → (if wire then x else 0) < n → x < n
wire-below true x n is below = below
wire-below false x n is below = absurd (false≢true is)

wire-takes : (wire : Bool) (new old more : ℕ) → wire ≡ true → new + more ≤ old → (if wire then new else 0) + more ≤ (if wire then old else 0)
wire-takes true new old more is takes = takes
wire-takes false new old more is takes = absurd (false≢true is)

via-takes : (wire : Bool) (new old more : ℕ) → wire ≡ false → more ≡ 0 → (if wire then new else 0) + more ≤ (if wire then old else 0)
via-takes true new old more is none = absurd (false≢true (sym is))
via-takes false new old more is none = omega (arith, none)

module _ (g small : Shape) (columns : small.columns ≡ g.columns) (rows : small.rows ≡ g.rows) (layers : small.layers ≡ 1) (level : ℕ → ℕ) where
  wire-fall : (e : Edge) (up : Bool) → IsTrue (has_edge g e) → is_wire e ≡ true →
      fall small level (edge_at (tile_of g e.low) e.way) up ≡ fall g (λ n. level (tile_of g n)) e up
  wire-fall e true edge wire = ap (λ (n : ℕ). level (tile_of g e.low) - level n) (wire-high g small columns rows layers e edge wire)
  wire-fall e false edge wire = ap (λ (n : ℕ). level n - level (tile_of g e.low)) (wire-high g small columns rows layers e edge wire)

  via-fall : (e : Edge) (up : Bool) → IsTrue (has_edge g e) → is_wire e ≡ false → fall g (λ n. level (tile_of g n)) e up ≡ 0
  via-fall e true edge via = let same : level (tile_of g (high_of g e)) ≡ level (tile_of g e.low) = ap level (via-tile g e edge via) in omega (arith, same)
  via-fall e false edge via = let same : level (tile_of g (high_of g e)) ≡ level (tile_of g e.low) = ap level (via-tile g e edge via) in omega (arith, same)

  flat-taken : (old new : List ℕ) → ArePaid small level old new → (e : Edge) (up : Bool) → IsTrue (has_edge g e) → arcs_in true g small old e up < nothing →
      arcs_in true g small new e up + fall g (λ n. level (tile_of g n)) e up ≤ arcs_in true g small old e up
  flat-taken old new paid e up edge some =
      let f : Edge = edge_at (tile_of g e.low) e.way in
      elim (cases_Bool (is_wire e)) [
        | inl wire ↦
            let below = wire-below (is_wire e) (slice_index old (arc_of small f up)) nothing wire some in
            let takes = arc-taken small level old new paid f (wire-edge g small columns rows layers e edge wire) up below in
            let same = wire-fall e up edge wire in
            wire-takes (is_wire e) (slice_index new (arc_of small f up)) (slice_index old (arc_of small f up)) (fall g (λ n. level (tile_of g n)) e up) wire
            (subst (λ (more : ℕ). slice_index new (arc_of small f up) + more ≤ slice_index old (arc_of small f up)) same takes)
        | inr via ↦
            via-takes (is_wire e) (slice_index new (arc_of small f up)) (slice_index old (arc_of small f up)) (fall g (λ n. level (tile_of g n)) e up) via
            (via-fall e up edge via)
      ]

-- what falls along the arcs into each cell falls along each edge that may be used
arcs-taken : (d : DesignView) (allowed : Edges) (flat : Bool) (small : Shape) → IsFoldOf flat d.frame.shape small → (level : ℕ → ℕ) (old new : List ℕ) →
    HasArcs d allowed flat small old → ArePaid small level old new →
    IsTaken d allowed (λ n. level (folded flat d.frame.shape n)) (arcs_in flat d.frame.shape small old) (arcs_in flat d.frame.shape small new)
arcs-taken d allowed true small fold level old new some paid e up edge may =
    flat-taken d.frame.shape small fold.columns fold.rows (fold.one refl) level old new paid e up edge (some e up edge may)
arcs-taken d allowed false small fold level old new some paid e up edge may =
    let same = fold.same refl in
    let inside : IsTrue (has_edge small e) = subst (λ (s : Shape). IsTrue (has_edge s e)) (sym same) edge in
    let takes = arc-taken small level old new paid e inside up (some e up edge may) in
    subst (λ (s : Shape). slice_index new (arc_of small e up) + fall s level e up ≤ slice_index old (arc_of small e up)) same takes

has-lower : (d : DesignView) (allowed : Edges) (flat : Bool) (small : Shape) (old new : List ℕ) → AreLower old new → HasArcs d allowed flat small old →
    HasArcs d allowed flat small new
has-lower d allowed flat small old new lower some e up edge may =
    let v = arcs-lower flat d.frame.shape small old new lower e up in let w = some e up edge may in omega (arith, v, w)

pub paid-raises : (small : Shape) (driver pin distance : ℕ) (pins table old new : List ℕ) → ArePaid small (level_at table distance) old new →
    distance ≤ slice_index table driver → slice_index table pin ≡ 0 → IsTrue (is_among pins pin) → IsRaised small driver pins old new distance
paid-raises small driver pin distance pins table old new paid high low among d p allowed flat net first so_far fold are at some was =
    let g : Shape = d.frame.shape in
    let level : ℕ → ℕ = level_at table distance in
    let found = among-folds (folded flat g) (pins_at d net) pin (ap (λ (xs : List ℕ). is_among xs pin) are ∙ among) in
    let from : level_at table distance (folded flat g first) ≡ level_at table distance driver = ap (level_at table distance) at in
    let to : level_at table distance (folded flat g found.0) ≡ level_at table distance pin = ap (level_at table distance) found.1.1 in
    paying-law d p allowed net first (arcs_in flat g small old) (arcs_in flat g small new) (λ n. level (folded flat g n)) so_far distance found.0 was
    (arcs-taken d allowed flat small fold level old new some paid) (omega (arith, high, from)) (omega (arith, low, to)) found.1.0

-- where less is left, as much is paid
pub lower-raises : (small : Shape) (driver : ℕ) (pins old new : List ℕ) → AreLower old new → IsRaised small driver pins old new 0
lower-raises small driver pins old new lower d p allowed flat net first so_far fold are at some was set join r reached =
    less d p allowed net first (arcs_in flat d.frame.shape small old) (arcs_in flat d.frame.shape small new) so_far was
    (arcs-lower flat d.frame.shape small old new lower) set join r reached
  where
    less : (d : DesignView) (p : Prices) (allowed : Edges) (net driver : ℕ) (old new : Edge → Bool → ℕ) (paid : ℕ) → IsPaid d p allowed net driver old paid →
        ((e : Edge) → (up : Bool) → new e up ≤ old e up) → IsPaid d p allowed net driver new (paid + 0)
    less d p allowed net driver old new paid was low set join r reached =
        let before = was set join r reached in
        let each =
        set-le d.frame.shape set (uphill d.frame.shape r.rank new) (uphill d.frame.shape r.rank old)
        (λ e among. low e (nat_lt (r.rank e.low) (r.rank (high_of d.frame.shape e)))) in
        omega (arith, before, each)

-- two payments, one after the other, of which the sum is told or less
pub raises-more : (small : Shape) (driver : ℕ) (pins a b c : List ℕ) (x y z : ℕ) → z ≤ x + y → AreLower a b → IsRaised small driver pins a b x →
    IsRaised small driver pins b c y → IsRaised small driver pins a c z
raises-more small driver pins a b c x y z few lower one two d p allowed flat net first so_far fold are at some was set join r reached =
    let paid = one d p allowed flat net first so_far fold are at some was in
    let second = two d p allowed flat net first (so_far + x) fold are at (has-lower d allowed flat small a b lower some) paid set join r reached in
    omega (arith, second, few)

-- what is paid for a net by prices in a table is a bound
pub raised-bounds : (d : DesignView) → IsDesign d → (rates : Rates) (weights : List ℕ) (net paid : ℕ) (view : PricerView) (first driver : ℕ) (others pins old new : List ℕ) →
    pins_at d net ≡ first ∷ others → IsFoldOf view.flat d.frame.shape view.small → map (folded view.flat d.frame.shape) (pins_at d net) ≡ pins →
    folded view.flat d.frame.shape first ≡ driver → ArePrices d rates weights net view → AreLower view.table old →
    IsRaised view.small driver pins old new paid → IsNetBound d (prices_by rates weights) (allowed_by d rates.usable_only) net paid
raised-bounds d design rates weights net paid view first driver others pins old new are fold fold_pins at prices lower raised =
    let g : Shape = d.frame.shape in
    let p : Prices = prices_by rates weights in
    let allowed : Edges = allowed_by d rates.usable_only in
    let low : IsLeft d p allowed net (arcs_in view.flat g view.small old) =
    λ e up edge may.
    let v = arcs-lower view.flat g view.small view.table old lower e up in let w = (prices.each e edge up may).0 in omega (arith, v, w) in
    let some : HasArcs d allowed view.flat view.small old =
    has-lower d allowed view.flat view.small view.table old lower (λ e up edge may. (prices.each e edge up may).1) in
    let at_first = unpaid-law d p allowed net first (arcs_in view.flat g view.small old) low in
    let at_last = raised d p allowed view.flat net first 0 fold fold_pins at some at_first in
    let whole : IsPaid d p allowed net first (arcs_in view.flat g view.small new) paid =
    λ set join r reached. let v = at_last set join r reached in omega (arith, v) in
    paid-law d design p allowed net first others are (arcs_in view.flat g view.small new) paid whole

-- what is paid for a net of a design, by where its pins stand
pub paid-net : (d : DesignView) → IsDesign d → (rates : Rates) (weights : List ℕ) (net paid : ℕ) (view : PricerView) (all pins old new : List ℕ) →
    all ≡ pins_at d net → pins ≡ map (folded view.flat d.frame.shape) all → 0 < length all → IsFoldOf view.flat d.frame.shape view.small →
    ArePrices d rates weights net view → AreLower view.table old → IsRaised view.small (slice_index pins 0) pins old new paid →
    IsNetBound d (prices_by rates weights) (allowed_by d rates.usable_only) net paid
paid-net d design rates weights net paid view [] pins old new are fold_pins some fold prices lower raised = absurd (omega (arith, some))
paid-net d design rates weights net paid view (first ∷ others) pins old new are fold_pins some fold prices lower raised =
    raised-bounds d design rates weights net paid view first (slice_index pins 0) others pins old new (sym are) fold
    (ap (λ (xs : List ℕ). map (folded view.flat d.frame.shape) xs) (sym are) ∙ sym fold_pins) (sym (ap (λ (xs : List ℕ). slice_index xs 0) fold_pins)) prices lower raised

-- the pins of a net that was read are cells, and a routed net has some
pub pins-given : (d : DesignView) → IsDesign d → (net : ℕ) (value : Net) → slice_get d.nets net ≡ Some value → (g : Shape) → g ≡ d.frame.shape →
    (pins : List ℕ) → pins ≡ value.pins → All (λ pin. pin < cells_of g) pins
pins-given d design net value is g same pins are =
    subst (λ (xs : List ℕ). All (λ pin. pin < cells_of g) xs) (sym are)
    (subst (λ (s : Shape). All (λ pin. pin < cells_of s) value.pins) (sym same)
    (subst (λ (xs : List ℕ). All (λ pin. pin < cells_of d.frame.shape) xs) (ap pins_in is) (pins-inside d net design)))

-- and so is where they stand
pub pins-stand : (d : DesignView) → IsDesign d → (net : ℕ) (value : Net) → slice_get d.nets net ≡ Some value → (flat : Bool) (g small : Shape) → g ≡ d.frame.shape →
    IsFoldOf flat g small → (pins folds : List ℕ) → pins ≡ value.pins → folds ≡ map (folded flat g) pins → All (λ pin. pin < cells_of small) folds
pins-stand d design net value is flat g small same fold pins folds are stand =
    folds-below flat g small fold pins folds (pins-given d design net value is g same pins are) stand

pub some-pins : (d : DesignView) (net : ℕ) (pins : List ℕ) → pins ≡ pins_at d net → IsTrue (is_routed d net) → 0 < length pins
some-pins d net pins are routed = subst (λ (xs : List ℕ). 0 < length xs) (sym are) (by (slice_get d.nets net) routed)
  where
    by : (o : Option Net) → IsTrue (is_routed_net o) → 0 < length (pins_in o)
    by None routed = absurd (false≢true routed)
    by (Some value) routed = grind (arith, nat_tests)
