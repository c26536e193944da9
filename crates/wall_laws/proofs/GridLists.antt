-- The grid's lists of wire edges and via edges.
use Rattle.std.proofs.Common.{◌≡◌, ℕ, ◌+◌, ◌*◌, ◌<◌, ◌≤◌, Bool, true, false, List, filter, map, All, slice_index_or, sum_by, IsTrue, refl, sym, ap, subst, ◌∙◌, arith}
use Rattle.std.specs.List.{range_with_len}
use Rattle.std.proofs.lemmas.Bool.{both_ways}
use Rattle.std.proofs.lemmas.List.Elements.{All-filter, All-map, filter_passes}
use Rattle.gr_base.specs.declared.grid.Edge.{Edge}
use Rattle.gr_base.specs.declared.grid.Shape.{Shape}
use Rattle.gr_base.specs.declared.grid.Way.{Way}
use Rattle.gr_base.specs.declared.grid.Way.TheVariants.{East, North, Up}
use Rattle.gr_base.specs.Grid.{cells_of, place_at, beyond, edge_at, high_of, has_edge, is_wire, is_wire_way}
use Rattle.gr_base.specs.Sums.{wire_at, wire_number, wires_from_cells, wire_edges, via_edges}
use Rattle.gr_base.proofs.GridLemmas.{edge-low, place-high}
use Rattle.grid_demand.proofs.WireLemmas.{wire_at-number, number-below, wire-wire_at}
use Rattle.wall_laws.proofs.SumLemmas.{listed-part}
use Rattle.wall_laws.specs.Walls.{Tiles, has_place, encloses, differ, crosses}

-- each listed wire edge is a wire edge of the grid
pub wires-in-grid : (g : Shape) → All (λ (e : Edge). has_edge g e ≡ true) (wire_edges g)
wires-in-grid g = filter_passes (has_edge g) (wires_from_cells g)

pub wires-are-wires : (g : Shape) → All (λ (e : Edge). is_wire e ≡ true) (wire_edges g)
wires-are-wires g =
    let P : Edge → Type 0 = λ e. is_wire e ≡ true in
    All-filter (has_edge g) P (wires_from_cells g)
    (All-map P wire_at (range_with_len 0 (2 * cells_of g)) (λ k d below. wire-wire_at (slice_index_or (range_with_len 0 (2 * cells_of g)) k d)))

-- and each listed via edge a via edge of it
pub vias-in-grid : (g : Shape) → All (λ (e : Edge). has_edge g e ≡ true) (via_edges g)
vias-in-grid g = filter_passes (has_edge g) (map (λ cell. edge_at cell Up) (range_with_len 0 (cells_of g)))

pub vias-are-vias : (g : Shape) → All (λ (e : Edge). e.way ≡ Up) (via_edges g)
vias-are-vias g =
    let P : Edge → Type 0 = λ e. e.way ≡ Up in
    let up : ℕ → Edge = λ cell. edge_at cell Up in
    All-filter (has_edge g) P (map up (range_with_len 0 (cells_of g)))
    (All-map P up (range_with_len 0 (cells_of g)) (λ k d below. refl))

-- what a wire edge of the grid adds to a sum over them all, and a via edge
pub wire-part : (g : Shape) (f : Edge → ℕ) (e : Edge) → IsTrue (has_edge g e) → IsTrue (is_wire e) → f e ≤ sum_by f (wire_edges g)
wire-part g f e edge wire =
    let is = wire_at-number e wire in
    let part =
    listed-part f (has_edge g) wire_at (2 * cells_of g) (wire_number e) (number-below g e edge) (ap (has_edge g) is ∙ edge) in
    let same : f (wire_at (wire_number e)) ≡ f e = ap f is in
    omega (arith, part, same)

pub via-part : (g : Shape) (f : Edge → ℕ) (e : Edge) → IsTrue (has_edge g e) → e.way ≡ Up → f e ≤ sum_by f (via_edges g)
via-part g f e edge via =
    let is : edge_at e.low Up ≡ e = ap (λ (way : Way). edge_at e.low way) (sym via) in
    let part = listed-part f (has_edge g) (λ cell. edge_at cell Up) (cells_of g) e.low (edge-low g e edge) (ap (has_edge g) is ∙ edge) in
    let same : f (edge_at e.low Up) ≡ f e = ap f is in
    omega (arith, part, same)

-- the place of the other end, by the way
pub place-beyond : (g : Shape) (e : Edge) (way : Way) → IsTrue (has_edge g e) → e.way ≡ way →
    place_at g (high_of g e) ≡ beyond (place_at g e.low) way
place-beyond g e way edge is = place-high g e edge ∙ ap (beyond (place_at g e.low)) is

-- an edge that crosses a wall is a wire edge
pub crosses-wire : (g : Shape) (wall : Tiles) (e : Edge) → IsTrue (has_edge g e) → crosses g wall e ≡ true → is_wire e ≡ true
crosses-wire g wall e edge through = by e.way refl
  where
    same : (b : Bool) → differ b b ≡ false
    same true = refl
    same false = refl

    by : (way : Way) → e.way ≡ way → is_wire_way way ≡ true
    by East is = refl
    by North is = refl
    by Up is =
        let level : encloses g wall (high_of g e) ≡ encloses g wall e.low = ap (has_place wall) (place-beyond g e Up edge is) in
        let none : crosses g wall e ≡ false = ap (differ (encloses g wall e.low)) level ∙ same (encloses g wall e.low) in
        absurd (both_ways (crosses g wall e) none through)
