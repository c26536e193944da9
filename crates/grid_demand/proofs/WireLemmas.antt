-- Tables by the numbers of wire edges.
use Rattle.std.proofs.Common.{◌≡◌, ℕ, suc, zero, ◌+◌, ◌*◌, ◌/◌, ◌%◌, ◌<◌, ◌⊎◌, inl, inr, true, false, ◌==◌, List, [], ◌∷◌, map, length, get_or, slice_index, slice_set, if◌then◌else◌, IsTrue, refl, sym, ap, subst, ◌∙◌, arith}
use Rattle.std.proofs.lemmas.Bool.{cases_Bool, cases_eq, both_ways}
use Rattle.std.proofs.lemmas.Bool.Decides.{nat_tests}
use Rattle.std.proofs.lemmas.Grind.{same_number_lists}
use Rattle.std.proofs.lemmas.List.{length-map, length-set, get_or-set_same, get_or-set_other}
use Rattle.std.proofs.lemmas.List.FromFn.{length-map-range_with_len, get_or-map-range_with_len}
use Rattle.gr_base.proofs.GridLemmas.{edge-low}
use Rattle.gr_base.proofs.TreeDistinct.{is_edge-same}
use Rattle.gr_base.proofs.TreeEdges.{is_edge-refl}
use Rattle.gr_base.specs.EdgeSets.{is_edge}
use Rattle.gr_base.specs.Grid.{cells_of, edge_at, has_edge, is_wire, is_wire_way}
use Rattle.gr_base.specs.Sums.{wire_at, wire_number, wires_from_cells}
use Rattle.gr_base.specs.declared.grid.Edge.{Edge}
use Rattle.gr_base.specs.declared.grid.Shape.{Shape}
use Rattle.gr_base.specs.declared.grid.Way.{Way}
use Rattle.gr_base.specs.declared.grid.Way.TheVariants.{East, North, Up}

-- the wire edges with the numbers of a cell
pub wire_at-east : (cell : ℕ) → wire_at (2 * cell) ≡ edge_at cell East
wire_at-east cell =
    let half : 2 * cell / 2 ≡ cell = omega arith in
    let even : (2 * cell % 2 == 0) ≡ true = grind (arith, nat_tests) in
    rw (half, even) refl

pub wire_at-north : (cell : ℕ) → wire_at (2 * cell + 1) ≡ edge_at cell North
wire_at-north cell =
    let half : (2 * cell + 1) / 2 ≡ cell = omega arith in
    let odd : ((2 * cell + 1) % 2 == 0) ≡ false = grind (arith, nat_tests) in
    rw (half, odd) refl

-- a wire edge has the number that it is named by
at-number : (low : ℕ) (way : Way) → IsTrue (is_wire_way way) → wire_at (wire_number (edge_at low way)) ≡ edge_at low way
at-number low East wire = let e : 2 * low + 0 ≡ 2 * low = omega arith in ap wire_at e ∙ wire_at-east low
at-number low North wire = wire_at-north low
at-number low Up wire = absurd (both_ways false refl wire)

pub wire_at-number : (e : Edge) → IsTrue (is_wire e) → wire_at (wire_number e) ≡ e
wire_at-number e wire = at-number e.low e.way wire

-- a number is even or odd
pub halves : (n : ℕ) → (n ≡ 2 * (n / 2)) ⊎ (n ≡ 2 * (n / 2) + 1)
halves n =
    elim (cases_eq (n % 2) 0) [
      | inl even ↦ inl (omega arith)
      | inr odd ↦ inr (omega arith)
    ]

pub number-wire_at : (n : ℕ) → wire_number (wire_at n) ≡ n
number-wire_at n =
    elim (halves n) [
      | inl even ↦
          let is : wire_at n ≡ edge_at (n / 2) East = ap wire_at even ∙ wire_at-east (n / 2) in
          ap wire_number is ∙ omega arith
      | inr odd ↦
          let is : wire_at n ≡ edge_at (n / 2) North = ap wire_at odd ∙ wire_at-north (n / 2) in
          ap wire_number is ∙ omega arith
    ]

-- each number is a wire edge's
pub wire-wire_at : (n : ℕ) → IsTrue (is_wire (wire_at n))
wire-wire_at n =
    let P : Edge → Type 0 = λ e. IsTrue (is_wire e) in
    elim (halves n) [
      | inl even ↦ subst P (sym (ap wire_at even ∙ wire_at-east (n / 2))) refl
      | inr odd ↦ subst P (sym (ap wire_at odd ∙ wire_at-north (n / 2))) refl
    ]

number-below_way : (low cells : ℕ) (way : Way) → low < cells → wire_number (edge_at low way) < 2 * cells
number-below_way low cells East below = omega arith
number-below_way low cells North below = omega arith
number-below_way low cells Up below = omega arith

-- the numbers of the grid's wire edges are below twice its number of cells
pub number-below : (g : Shape) (e : Edge) → IsTrue (has_edge g e) → wire_number e < 2 * cells_of g
number-below g e edge = number-below_way e.low (cells_of g) e.way (edge-low g e edge)

-- the test on wire edges is that on their numbers
pub is_edge-number : (n : ℕ) (e : Edge) → IsTrue (is_wire e) → (n ≡ wire_number e → is_edge (wire_at n) e ≡ true) × ((n ≡ wire_number e → ⊥) → is_edge (wire_at n) e ≡ false)
is_edge-number n e wire = (
  λ same. let is : wire_at n ≡ e = ap wire_at same ∙ wire_at-number e wire in ap (λ (f : Edge). is_edge f e) is ∙ is_edge-refl e,
  λ other. elim (cases_Bool (is_edge (wire_at n) e)) [
    | inl same ↦ absurd (other (sym (number-wire_at n) ∙ ap wire_number (is_edge-same (wire_at n) e same)))
    | inr apart ↦ apart
  ],
)

get_or-map_zero : {X : Type 0} (f : X → ℕ) (xs : List X) (n : ℕ) (d : X) → n < length xs → get_or (map f xs) n 0 ≡ f (get_or xs n d)
get_or-map_zero f [] n d below = absurd (omega arith)
get_or-map_zero f (x ∷ xs) zero d below = refl
get_or-map_zero f (x ∷ xs) (suc n) d below = get_or-map_zero f xs n d (omega arith)

pub length-wires : (g : Shape) → length (wires_from_cells g) ≡ 2 * cells_of g
length-wires g = length-map-range_with_len wire_at 0 (2 * cells_of g)

pub length-table : (g : Shape) (f : Edge → ℕ) → length (map f (wires_from_cells g)) ≡ 2 * cells_of g
length-table g f = length-map (wires_from_cells g) f ∙ length-wires g

-- what a table of f has at a number
pub table-at : (g : Shape) (f : Edge → ℕ) (n : ℕ) → n < 2 * cells_of g → slice_index (map f (wires_from_cells g)) n ≡ f (wire_at n)
table-at g f n below =
    let d : Edge = edge_at 0 East in
    let within : n < length (wires_from_cells g) = let h = length-wires g in omega arith in
    let at : get_or (wires_from_cells g) n d ≡ wire_at n = get_or-map-range_with_len wire_at 0 (2 * cells_of g) n n d below (omega arith) in
    get_or-map_zero f (wires_from_cells g) n d within ∙ ap f at

-- what a table of f has for a wire edge
pub table-edge : (g : Shape) (f : Edge → ℕ) (e : Edge) → IsTrue (has_edge g e) → IsTrue (is_wire e) →
    slice_index (map f (wires_from_cells g)) (wire_number e) ≡ f e
table-edge g f e edge wire = table-at g f (wire_number e) (number-below g e edge) ∙ ap f (wire_at-number e wire)

-- a list is the table of f where it has what f gives at each number
pub table-is : (g : Shape) (f : Edge → ℕ) (xs : List ℕ) → length xs ≡ 2 * cells_of g →
    ((n : ℕ) → n < 2 * cells_of g → slice_index xs n ≡ f (wire_at n)) → xs ≡ map f (wires_from_cells g)
table-is g f xs long each =
    let table = length-table g f in
    same_number_lists xs (map f (wires_from_cells g)) (long ∙ sym table)
    (λ n below. let within : n < 2 * cells_of g = omega arith in each n within ∙ sym (table-at g f n within))

-- tables of functions that agree on wire edges
pub table-same : (g : Shape) (f h : Edge → ℕ) → ((e : Edge) → IsTrue (is_wire e) → f e ≡ h e) →
    map f (wires_from_cells g) ≡ map h (wires_from_cells g)
table-same g f h each =
    table-is g h (map f (wires_from_cells g)) (length-table g f)
    (λ n below. table-at g f n below ∙ each (wire_at n) (wire-wire_at n))

-- a whole list is the table of what it has
pub table-self : (g : Shape) (xs : List ℕ) → length xs ≡ 2 * cells_of g →
    xs ≡ map (λ e. slice_index xs (wire_number e)) (wires_from_cells g)
table-self g xs long =
    table-is g (λ e. slice_index xs (wire_number e)) xs long (λ n below. ap (λ (k : ℕ). slice_index xs k) (sym (number-wire_at n)))

-- a table after a write
pub table-set : (g : Shape) (f : Edge → ℕ) (a : Edge) (v : ℕ) → IsTrue (has_edge g a) → IsTrue (is_wire a) →
    slice_set (map f (wires_from_cells g)) (wire_number a) v ≡ map (λ e. if is_edge e a then v else f e) (wires_from_cells g)
table-set g f a v edge wire =
    let table = length-table g f in
    let below_a = number-below g a edge in
    let long : length (slice_set (map f (wires_from_cells g)) (wire_number a) v) ≡ 2 * cells_of g =
    length-set (map f (wires_from_cells g)) (wire_number a) v ∙ table in
    table-is g (λ e. if is_edge e a then v else f e) (slice_set (map f (wires_from_cells g)) (wire_number a) v) long
    (λ n below. elim (cases_eq n (wire_number a)) [
      | inl same ↦
          let test = (is_edge-number n a wire).0 same in
          rw test (ap (λ (k : ℕ). slice_index (slice_set (map f (wires_from_cells g)) (wire_number a) v) k) same
          ∙ get_or-set_same (map f (wires_from_cells g)) (wire_number a) v 0 (omega arith))
      | inr other ↦
          let test = (is_edge-number n a wire).1 other in
          rw test (get_or-set_other (map f (wires_from_cells g)) (wire_number a) n v 0 other ∙ table-at g f n below)
    ])
