-- The wire edges of which a table says that they are over their capacity.
use Rattle.std.proofs.Common.{◌≡◌, ℕ, ◌*◌, ◌<◌, ◌==◌, Bool, true, false, List, length, slice_get, slice_index_or, get_or, Some, option_map, IsTrue, sym, ap, subst, ◌∙◌, arith}
use Rattle.std.proofs.lemmas.Bool.Decides.{nat_tests}
use Rattle.std.proofs.lemmas.List.{length-map}
use Rattle.std.proofs.lemmas.List.Folds.{Any-from_list_any}
use Rattle.std.proofs.lemmas.Option.{slice_get-map, slice_get-get_or, slice_get_within, same_Some}
use Rattle.gr_base.specs.Grid.{is_wire}
use Rattle.gr_base.specs.Sums.{wire_number}
use Rattle.gr_base.specs.Trees.{is_among}
use Rattle.gr_base.specs.declared.grid.Edge.{Edge}
use Rattle.grid_demand.proofs.PlacedEdges.{is-placed, placed-wire}
use Rattle.grid_demand.proofs.PlaneLemmas.{place-below, length-by_number}
use Rattle.grid_demand.proofs.RangeFilters.{filter-below, filter-has}
use Rattle.grid_demand.proofs.WireLemmas.{number-wire_at, wire_at-number}
use Rattle.grid_demand.specs.Overfull.{is_told, told_places, told_edges}
use Rattle.grid_demand.specs.Planes.{place_of, by_number, edge_placed}

-- a table tells a place where it tells the number that stands there
pub told-number : (table : List Bool) (cells n : ℕ) → length table ≡ 2 * cells → n < 2 * cells →
    is_among (told_places table) (place_of (2 * cells) n) ≡ slice_index_or table n false
told-number table cells n long below =
    let p : ℕ = place_of (2 * cells) n in
    let there : p < 2 * cells = place-below (2 * cells) n below in
    filter-has (λ (place : ℕ). is_told table (edge_placed (length table) place)) 0 (length table) p (omega arith) (omega (arith, there, long))
    ∙ ap (λ (w : ℕ). is_told table (edge_placed w p)) long
    ∙ ap (is_told table) (placed-wire cells n below)
    ∙ ap (λ (k : ℕ). slice_index_or table k false) (number-wire_at n)

-- an edge of which it says so is one of the list
pub told-found : (table : List Bool) (cells : ℕ) (e : Edge) → length table ≡ 2 * cells → IsTrue (is_wire e) → wire_number e < 2 * cells → is_told table e ≡ true →
    (k : ℕ) × (k < length (told_edges table)) × (slice_get (told_edges table) k ≡ Some e)
told-found table cells e long wire below told =
    let places : List ℕ = told_places table in
    let p : ℕ = place_of (2 * cells) (wire_number e) in
    let has : is_among places p ≡ true = told-number table cells (wire_number e) long below ∙ told in
    let at = Any-from_list_any (λ (n : ℕ). n == p) places has in
    let same : at.1 ≡ p = let test = at.4 in grind (arith, nat_tests, test) in
    let whole = length-map places (edge_placed (length table)) in
    let inside : at.0 < length places = at.2 in (
      at.0,
      omega (arith, inside, whole),
      slice_get-map (edge_placed (length table)) places at.0
          ∙ ap (option_map (edge_placed (length table))) (slice_get-get_or places at.0 at.1 inside ∙ ap (λ (n : ℕ). Some n) (at.3 ∙ same))
          ∙ ap (λ (w : ℕ). Some (edge_placed w p)) long
          ∙ ap (λ (f : Edge). Some f) (placed-wire cells (wire_number e) below ∙ wire_at-number e wire),
    )

-- and begins in the grid
pub told-low : (table : List Bool) (cells k : ℕ) (e : Edge) → length table ≡ 2 * cells → slice_get (told_edges table) k ≡ Some e → e.low < cells
told-low table cells k e long is =
    let places : List ℕ = told_places table in
    let p : ℕ = get_or places k 0 in
    let whole = length-map places (edge_placed (length table)) in
    let inside : k < length places = let within = slice_get_within (told_edges table) k e is in omega (arith, within, whole) in
    let below = filter-below (λ (place : ℕ). is_told table (edge_placed (length table) place)) (length table) k 0 inside in
    let there : Some (edge_placed (2 * cells) p) ≡ Some e =
    ap (λ (w : ℕ). Some (edge_placed w p)) (sym long)
    ∙ ap (option_map (edge_placed (length table))) (sym (slice_get-get_or places k 0 inside)) ∙ sym (slice_get-map (edge_placed (length table)) places k) ∙ is in
    subst (λ (f : Edge). f.low < cells) (same_Some _ _ there) (is-placed cells p (omega (arith, below, long))).low

-- a place of the list is in the table
pub told-inside : (over : List Bool) (places : List ℕ) (at place : ℕ) → places ≡ told_places (by_number false over) → at < length places →
    place ≡ get_or places at place → place < length over
told-inside over places at place listed inside is =
    let table : List Bool = by_number false over in
    let below = filter-below (λ (p : ℕ). is_told table (edge_placed (length table) p)) (length table) at place (subst (λ (xs : List ℕ). at < length xs) listed inside) in
    let same = ap (λ (xs : List ℕ). get_or xs at place) listed in
    let long = length-by_number false over in
    omega (arith, below, same, is, long)

-- and the edge there is one of those that are told
pub told-edge : (over : List Bool) (places : List ℕ) (wires at place : ℕ) → places ≡ told_places (by_number false over) → at < length places →
    place ≡ get_or places at place → wires ≡ length over → slice_get (told_edges (by_number false over)) at ≡ Some (edge_placed wires place)
told-edge over places wires at place listed inside is all =
    let table : List Bool = by_number false over in
    slice_get-map (edge_placed (length table)) (told_places table) at
    ∙ ap (λ (xs : List ℕ). option_map (edge_placed (length table)) (slice_get xs at)) (sym listed)
    ∙ ap (option_map (edge_placed (length table))) (slice_get-get_or places at place inside)
    ∙ ap (λ (p : ℕ). Some (edge_placed (length table) p)) (sym is)
    ∙ ap (λ (w : ℕ). Some (edge_placed w place)) (length-by_number false over ∙ sym all)

pub told-length : (over : List Bool) (places : List ℕ) → places ≡ told_places (by_number false over) → length (told_edges (by_number false over)) ≡ length places
told-length over places listed =
    let table : List Bool = by_number false over in
    length-map (told_places table) (edge_placed (length table)) ∙ ap length (sym listed)
