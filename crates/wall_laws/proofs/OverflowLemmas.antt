-- Overflow is at least the excess of walls of which no two share an edge.
use Rattle.std.proofs.Common.{◌≡◌, ℕ, zero, suc, ◌+◌, ◌-◌, ◌*◌, ◌<◌, ◌≤◌, ℤ, pos, ◌-ℤ◌, ◌+ℤ◌, ◌≤ℤ◌, ◌&&◌, inl, inr, Bool, true, false, cond, max, min, List, [], ◌∷◌, filter, map, take, fold, length, All, slice_index_or, slice_get, get_or, Option, Some, None, unwrap_or, count_by, sum_by, if◌then◌else◌, IsTrue, refl, sym, ap, subst, ◌∙◌, arith}
use Rattle.std.specs.List.{list_any, range_with_len, reduce}
use Rattle.std.proofs.lemmas.Bool.{cases_Bool, both_ways, or_parts}
use Rattle.std.proofs.lemmas.Bool.Decides.{nat_tests}
use Rattle.std.proofs.lemmas.Int.{ints}
use Rattle.std.proofs.lemmas.Option.{none-some, same_Some, slice_get-get_or}
use Rattle.std.proofs.lemmas.List.Elements.{All-nil, All-cons, All-head, All-tail, All-weaker, All-get_or, filter_passes}
use Rattle.std.proofs.lemmas.List.Sums.{sum_by-cons}
use Rattle.gr_base.proofs.General.{fold-min-low}
use Rattle.gr_base.proofs.GridLemmas.{place-inside, edge-low}
use Rattle.gr_base.specs.declared.frame.Layer.{Layer}
use Rattle.gr_base.specs.declared.frame.Net.{Net}
use Rattle.gr_base.specs.declared.grid.Edge.{Edge}
use Rattle.gr_base.specs.declared.grid.Shape.{Shape}
use Rattle.gr_base.specs.declared.grid.Way.{Way}
use Rattle.gr_base.specs.declared.grid.Way.TheVariants.{East, North, Up}
use Rattle.gr_base.specs.Capacities.{capacity, layer_at, need, need_along, width_in, widths_of}
use Rattle.gr_base.specs.Designs.{DesignView, IsDesign, IsNet, is_routed, pins_in, pins_at}
use Rattle.gr_base.specs.EdgeSets.{Edges}
use Rattle.gr_base.specs.Grid.{cells_of, place_at, has_edge, is_wire, is_wire_way}
use Rattle.gr_base.specs.Sums.{wire_edges, sum_routed, demand, overflow, total_over}
use Rattle.wall_laws.proofs.GridLists.{wire-part, crosses-wire}
use Rattle.wall_laws.proofs.SumLemmas.{sum-plus, sum-zero, sum-le, sum-swap}
use Rattle.wall_laws.proofs.WalkLemmas.{parted-leaves}
use Rattle.wall_laws.specs.Laws.{OverflowLaw}
use Rattle.wall_laws.specs.Walls.{Tiles, encloses, crosses, is_parted, taken_on, least_on, least_need, need_across, needs, holds, excess, total_excess, share_edge, ShareNoEdge, JoinNets}

-- ---- what is known of a routed net

pub pins-inside : (d : DesignView) (net : ℕ) → IsDesign d → All (λ pin. pin < cells_of d.frame.shape) (pins_at d net)
pins-inside d net design = by (slice_get d.nets net) refl
  where
    at : (nets : List Net) → All (IsNet d.frame.shape) nets → (n : ℕ) (value : Net) → slice_get nets n ≡ Some value → IsNet d.frame.shape value
    at [] each n value is = absurd (none-some value is)
    at (x ∷ xs) each zero value is =
        subst (λ (v : Net). IsNet d.frame.shape v) (same_Some x value is) (All-head (IsNet d.frame.shape) x xs each)
    at (x ∷ xs) each (suc n) value is = at xs (All-tail (IsNet d.frame.shape) x xs each) n value is

    by : (o : Option Net) → slice_get d.nets net ≡ o → All (λ pin. pin < cells_of d.frame.shape) (pins_in o)
    by None is = All-nil (λ pin. pin < cells_of d.frame.shape)
    by (Some value) is = (at d.nets design.nets net value is).pins

-- a fact on each number that passes a test, by the facts on those of which the test is true
pub all-passing : (P : ℕ → Type 0) (p : ℕ → Bool) → ((n : ℕ) → IsTrue (p n) → P n) → (xs : List ℕ) → All P (filter p xs)
all-passing P p each xs = All-weaker (λ n. p n ≡ true) P each (filter p xs) (filter_passes p xs)

few-layers : (g : Shape) → g.layers ≤ 16
few-layers g = let v = g.valid in grind (arith, nat_tests)

-- ---- what a net takes of a wire edge is at least the least that it takes of any

least-fold : (width least : ℕ) (xs : List Layer) (n i : ℕ) (layer : Layer) → slice_get xs i ≡ Some layer → i < n →
    fold min least (map (taken_on width) (take n xs)) ≤ taken_on width layer
least-fold width least [] n i layer is below = absurd (none-some layer is)
least-fold width least (x ∷ xs) zero i layer is below = absurd (omega arith)
least-fold width least (x ∷ xs) (suc n) zero layer is below =
    let low = fold-min-low (min least (taken_on width x)) (map (taken_on width) (take n xs)) in
    let same : taken_on width x ≡ taken_on width layer = ap (taken_on width) (same_Some x layer is) in
    omega (arith, low, same)
least-fold width least (x ∷ xs) (suc n) (suc i) layer is below =
    least-fold width (min least (taken_on width x)) xs n i layer is (omega arith)

least-among : (width : ℕ) (xs : List Layer) (n i : ℕ) (layer : Layer) → slice_get xs i ≡ Some layer → i < n →
    least_on width (take n xs) ≤ taken_on width layer
least-among width [] n i layer is below = absurd (none-some layer is)
least-among width (x ∷ xs) zero i layer is below = absurd (omega arith)
least-among width (x ∷ xs) (suc n) zero layer is below =
    let low = fold-min-low (taken_on width x) (map (taken_on width) (take n xs)) in
    let same : taken_on width x ≡ taken_on width layer = ap (taken_on width) (same_Some x layer is) in
    omega (arith, low, same)
least-among width (x ∷ xs) (suc n) (suc i) layer is below = least-fold width (taken_on width x) xs n i layer is (omega arith)

need-least : (d : DesignView) (net : ℕ) (e : Edge) → IsDesign d → IsTrue (has_edge d.frame.shape e) → IsTrue (is_wire e) →
    least_need d net ≤ need d net e
need-least d net e design edge wire =
    let g : Shape = d.frame.shape in
    let width : ℕ = width_in (widths_of d) net in
    let inside = (place-inside g e.low (edge-low g e edge)).layer in
    let count = design.frame.count in
    let valid = few-layers g in
    let within : (place_at g e.low).layer < length d.frame.layers = omega (arith, inside, count, valid) in
    by-way e.way width (layer_at d.frame e) wire (λ layer is. least-among width d.frame.layers g.layers (place_at g e.low).layer layer is inside)
    (λ none. none-some (get_or d.frame.layers (place_at g e.low).layer blank) (sym none ∙ slice_get-get_or d.frame.layers (place_at g e.low).layer blank within))
  where
    blank : Layer
    blank = record { vertical = 0; horizontal = 0; width = 0; spacing = 0; via = 0 }

    by-layer : (way : Way) (width least : ℕ) (layer : Layer) → IsTrue (is_wire_way way) → least ≤ taken_on width layer →
        least ≤ need_along way width (Some layer)
    by-layer East width least layer wire le = le
    by-layer North width least layer wire le = le
    by-layer Up width least layer wire le = absurd (both_ways false refl wire)

    by-way : (way : Way) (width : ℕ) (o : Option Layer) → IsTrue (is_wire_way way) →
        ((layer : Layer) → o ≡ Some layer → least_need d net ≤ taken_on width layer) → (o ≡ None → ⊥) → least_need d net ≤ need_along way width o
    by-way way width None wire low some = absurd (some refl)
    by-way way width (Some layer) wire low some = by-layer way width (least_need d net) layer wire (low layer refl)

-- ---- a wall's edges carry what the nets need

-- what a net takes of an edge, and what it takes of a wall's
abbrev taken : DesignView → (ℕ → Edges) → Edge → ℕ → ℕ
taken d sets e net = if sets net e then need d net e else 0

abbrev across : DesignView → Tiles → (Edge → ℕ) → Edge → ℕ
across d wall f e = if crosses d.frame.shape wall e then f e else 0

net-takes : (d : DesignView) (sets : ℕ → Edges) (wall : Tiles) (net : ℕ) → IsDesign d → JoinNets d sets → IsTrue (is_routed d net) →
    need_across d wall net ≤ sum_by (across d wall (λ e. taken d sets e net)) (wire_edges d.frame.shape)
net-takes d sets wall net design join routed = by (is_parted (encloses g wall) (pins_at d net)) refl
  where
    g : Shape
    g = d.frame.shape

    by : (b : Bool) → is_parted (encloses g wall) (pins_at d net) ≡ b →
        (if b then least_need d net else 0) ≤ sum_by (across d wall (λ e. taken d sets e net)) (wire_edges g)
    by false is = omega arith
    by true is =
        let f : Edge → ℕ = across d wall (λ e. taken d sets e net) in
        let found =
        parted-leaves g (sets net) (join.inside net routed) (encloses g wall) (pins_at d net) (pins-inside d net design) (join.joined net routed) is in
        let e : Edge = found.0 in
        let wire = crosses-wire g wall e found.1.grid found.1.through in
        let part = wire-part g f e found.1.grid wire in
        let takes : f e ≡ need d net e = rw (found.1.through, found.1.among) refl in
        let least = need-least d net e design found.1.grid wire in
        omega (arith, part, takes, least)

-- the nets that are routed
abbrev routed_of : DesignView → List ℕ
routed_of d = filter (is_routed d) (range_with_len 0 (length d.nets))

wall-takes : (d : DesignView) (sets : ℕ → Edges) (wall : Tiles) → IsDesign d → JoinNets d sets →
    needs d wall ≤ sum_by (across d wall (demand d sets)) (wire_edges d.frame.shape)
wall-takes d sets wall design join =
    let edges : List Edge = wire_edges d.frame.shape in
    let part : ℕ → Edge → ℕ = λ net e. across d wall (λ f. taken d sets f net) e in
    let each =
    sum-le (need_across d wall) (λ net. sum_by (part net) edges) (routed_of d)
    (all-passing (λ net. need_across d wall net ≤ sum_by (part net) edges) (is_routed d)
    (λ net routed. net-takes d sets wall net design join routed) (range_with_len 0 (length d.nets))) in
    let swapped = sum-swap part (routed_of d) edges in
    let whole =
    sum-le (λ e. sum_by (λ net. part net e) (routed_of d)) (across d wall (demand d sets)) edges
    (λ k d' below. at (slice_index_or edges k d') (crosses d.frame.shape wall (slice_index_or edges k d'))) in
    omega (arith, each, swapped, whole)
  where
    at : (e : Edge) (b : Bool) → sum_by (λ net. if b then taken d sets e net else 0) (routed_of d) ≤ (if b then demand d sets e else 0)
    at e true = omega arith
    at e false = let none = sum-zero (routed_of d) in omega (arith, none)

-- demand is overflow and what there is room for
wall-overflows : (d : DesignView) (sets : ℕ → Edges) (wall : Tiles) →
    sum_by (across d wall (demand d sets)) (wire_edges d.frame.shape) ≤
    sum_by (across d wall (overflow (demand d sets) (capacity d))) (wire_edges d.frame.shape) + holds d wall
wall-overflows d sets wall =
    let edges : List Edge = wire_edges d.frame.shape in
    let over : Edge → ℕ = overflow (demand d sets) (capacity d) in
    let split = sum-plus (across d wall over) (across d wall (capacity d)) edges in
    let each =
    sum-le (across d wall (demand d sets)) (λ e. across d wall over e + across d wall (capacity d) e) edges
    (λ k d' below. at (slice_index_or edges k d') (crosses d.frame.shape wall (slice_index_or edges k d'))) in
    omega (arith, split, each)
  where
    at : (e : Edge) (b : Bool) → (if b then demand d sets e else 0) ≤
        (if b then overflow (demand d sets) (capacity d) e else 0) + (if b then capacity d e else 0)
    at e true = omega arith
    at e false = omega arith

-- ---- walls of which no two share an edge

-- a test that no element passes fails at each
pub none-passes : {X : Type 0} (p : X → Bool) (xs : List X) → list_any p xs ≡ false → All (λ x. p x ≡ false) xs
none-passes p [] is = All-nil (λ x. p x ≡ false)
none-passes p (x ∷ xs) is =
    let parts = or_parts (p x) (list_any p xs) is in
    All-cons (λ y. p y ≡ false) x xs parts.0 (none-passes p xs parts.1)

other-false : (a b : Bool) → (a && b) ≡ false → a ≡ true → b ≡ false
other-false true b none is = none
other-false false b none is = absurd (both_ways false refl is)

-- an edge of the grid counts for one of the walls at most
edge-once : (g : Shape) (walls : List Tiles) (k v : ℕ) (blank : Edge) → k < length (wire_edges g) → ShareNoEdge g walls →
    sum_by (λ wall. if crosses g wall (slice_index_or (wire_edges g) k blank) then v else 0) walls ≤ v
edge-once g [] k v blank below apart = omega arith
edge-once g (wall ∷ walls) k v blank below apart =
    let e : Edge = slice_index_or (wire_edges g) k blank in
    let f : Tiles → ℕ = λ other. if crosses g other e then v else 0 in
    let more = sum_by-cons f wall walls in
    let rest = edge-once g walls k v blank below apart.1 in
    elim (cases_Bool (crosses g wall e)) [
      | inl here ↦
          let others : All (λ other. f other ≤ 0) walls =
          All-weaker (λ other. share_edge g wall other ≡ false) (λ other. f other ≤ 0)
          (λ other none. off other (other-false (crosses g wall e) (crosses g other e)
          (none-passes (λ x. crosses g wall x && crosses g other x) (wire_edges g) none k blank below) here)) walls apart.0 in
          let few = sum-le f (λ other. 0) walls others in
          let none : sum_by (λ (other : Tiles). 0) walls ≡ 0 = sum-zero walls in
          let one : f wall ≡ v = rw here refl in
          omega (arith, more, few, none, one)
      | inr away ↦ let zero : f wall ≡ 0 = rw away refl in omega (arith, more, rest, zero)
    ]
  where
    off : (other : Tiles) → crosses g other (slice_index_or (wire_edges g) k blank) ≡ false →
        (if crosses g other (slice_index_or (wire_edges g) k blank) then v else 0) ≤ 0
    off other none = rw none (omega arith)

walls-overflow : (d : DesignView) (sets : ℕ → Edges) (walls : List Tiles) → ShareNoEdge d.frame.shape walls →
    sum_by (λ wall. sum_by (across d wall (overflow (demand d sets) (capacity d))) (wire_edges d.frame.shape)) walls ≤ total_over d sets
walls-overflow d sets walls apart =
    let edges : List Edge = wire_edges d.frame.shape in
    let over : Edge → ℕ = overflow (demand d sets) (capacity d) in
    let part : Tiles → Edge → ℕ = λ wall e. across d wall over e in
    let swapped = sum-swap part walls edges in
    let each =
    sum-le (λ e. sum_by (λ wall. part wall e) walls) over edges
    (λ k blank below. edge-once d.frame.shape walls k (over (slice_index_or edges k blank)) blank below apart) in
    omega (arith, swapped, each)

pub walls-need : (d : DesignView) (sets : ℕ → Edges) (walls : List Tiles) → IsDesign d → ShareNoEdge d.frame.shape walls → JoinNets d sets →
    sum_by (needs d) walls ≤ total_over d sets + sum_by (holds d) walls
walls-need d sets walls design apart join =
    let over : Tiles → ℕ = λ wall. sum_by (across d wall (overflow (demand d sets) (capacity d))) (wire_edges d.frame.shape) in
    let each =
    sum-le (needs d) (λ wall. over wall + holds d wall) walls
    (λ k blank below.
    let wall : Tiles = slice_index_or walls k blank in
    let takes = wall-takes d sets wall design join in
    let overflows = wall-overflows d sets wall in
    omega (arith, takes, overflows)) in
    let split = sum-plus over (holds d) walls in
    let total = walls-overflow d sets walls apart in
    omega (arith, each, split, total)

-- ---- signed

excess-sums : (d : DesignView) (walls : List Tiles) → total_excess d walls ≡ pos (sum_by (needs d) walls) -ℤ pos (sum_by (holds d) walls)
excess-sums d [] = refl
excess-sums d (wall ∷ walls) =
    let rest = excess-sums d walls in
    let need = sum_by-cons (needs d) wall walls in
    let hold = sum_by-cons (holds d) wall walls in
    omega (arith, ints, rest, need, hold)

pub overflow-law : OverflowLaw
overflow-law d design walls apart sets join =
    let is = excess-sums d walls in
    let bound = walls-need d sets walls design apart join in
    omega (arith, ints, is, bound)
