-- A set that joins pins has as many edges along columns, rows and layers as the pins lie apart.
use Rattle.std.proofs.Common.{◌≡◌, ℕ, zero, suc, ◌+◌, ◌-◌, ◌<◌, ◌≤◌, ◌&&◌, ◌==◌, nat_le, nat_lt, inl, inr, Bool, true, false, cond, List, [], ◌∷◌, map, length, All, slice_index_or, count_by, sum_by, IsTrue, refl, sym, ap, subst, ◌∙◌, arith}
use Rattle.std.specs.List.{range_with_len}
use Rattle.std.proofs.lemmas.Bool.{cases_eq, and_from, and_parts, le-leb, lt-ltb, ne_eqb, false≢true}
use Rattle.std.proofs.lemmas.List.Elements.{All-nil, All-cons}
use Rattle.std.proofs.lemmas.List.FromFn.{length-range_with_len}
use Rattle.std.proofs.lemmas.List.Sums.{sum_by-cons}
use Rattle.gr_base.specs.declared.grid.Edge.{Edge}
use Rattle.gr_base.specs.declared.grid.Shape.{Shape}
use Rattle.gr_base.specs.declared.grid.Way.{Way}
use Rattle.gr_base.specs.declared.grid.Way.TheVariants.{East, North, Up}
use Rattle.gr_base.specs.EdgeSets.{Edges, IsJoined, is_way}
use Rattle.gr_base.specs.Grid.{cells_of, has_edge, is_wire, is_wire_way}
use Rattle.gr_base.specs.Sums.{wire_edges, via_edges}
use Rattle.wall_laws.proofs.CutLemmas.{column-crossed, row-crossed, layer-crossed, parted-between}
use Rattle.wall_laws.proofs.GridLists.{wires-in-grid, vias-in-grid, wire-part, via-part}
use Rattle.wall_laws.proofs.SumLemmas.{sum-plus, sum-zero, sum-le, tests-counted}
use Rattle.wall_laws.proofs.WalkLemmas.{AreInGrid, parted-leaves}
use Rattle.wall_laws.specs.Spans.{column_of, row_of, layer_of, is_low, least_of, most_of, spread, least_vias}
use Rattle.wall_laws.specs.Walls.{leads_through}

-- ---- ranges

pub each-in-range : (P : ℕ → Type 0) (from count : ℕ) → ((n : ℕ) → from ≤ n → n < from + count → P n) → All P (range_with_len from count)
each-in-range P from zero each = All-nil P
each-in-range P from (suc count) each =
    All-cons P from (range_with_len (from + 1) count) (each from (omega arith) (omega arith))
    (each-in-range P (from + 1) count (λ n low high. each n (omega arith) (omega arith)))

-- a number is once in a range at most
never-before : (b : Bool) (a from count : ℕ) → a < from → count_by (λ x. b && a == x) (range_with_len from count) ≡ 0
never-before b a from zero before = refl
never-before b a from (suc count) before =
    let one : ℕ → ℕ = λ x. cond (b && a == x) 1 0 in
    let more = sum_by-cons one from (range_with_len (from + 1) count) in
    let rest = never-before b a (from + 1) count (omega arith) in
    let none : one from ≡ 0 = off b (a == from) (ne_eqb a from (λ same. omega (arith, same))) in
    omega (arith, more, rest, none)
  where
    off : (c test : Bool) → test ≡ false → cond {A = ℕ} (c && test) 1 0 ≡ 0
    off true test is = rw is refl
    off false test is = refl

pub once-in-range : (b : Bool) (a from count : ℕ) → count_by (λ x. b && a == x) (range_with_len from count) ≤ 1
once-in-range b a from zero = omega arith
once-in-range b a from (suc count) =
    let one : ℕ → ℕ = λ x. cond (b && a == x) 1 0 in
    let more = sum_by-cons one from (range_with_len (from + 1) count) in
    elim (cases_eq a from) [
      | inl here ↦
          let rest = never-before b a (from + 1) count (omega (arith, here)) in
          let few : one from ≤ 1 = most (b && a == from) in
          omega (arith, more, rest, few)
      | inr away ↦
          let rest = once-in-range b a (from + 1) count in
          let none : one from ≡ 0 = off b (a == from) (ne_eqb a from away) in
          omega (arith, more, rest, none)
    ]
  where
    most : (c : Bool) → cond {A = ℕ} c 1 0 ≤ 1
    most true = omega arith
    most false = omega arith

    off : (c test : Bool) → test ≡ false → cond {A = ℕ} (c && test) 1 0 ≡ 0
    off true test is = rw is refl
    off false test is = refl

-- equal tests count alike
pub count-alike : {X : Type 0} (p q : X → Bool) (xs : List X) → ((x : X) → p x ≡ q x) → count_by p xs ≤ count_by q xs
count-alike {X = X} p q xs same =
    sum-le (λ x. cond (p x) 1 0) (λ x. cond (q x) 1 0) xs (λ k d below. equal (slice_index_or xs k d))
  where
    equal : (x : X) → cond {A = ℕ} (p x) 1 0 ≤ cond (q x) 1 0
    equal x = let e : cond {A = ℕ} (p x) 1 0 ≡ cond (q x) 1 0 = ap (λ (b : Bool). cond {A = ℕ} b 1 0) (same x) in omega (arith, e)

-- ---- one direction

-- the set's edges that way
abbrev pub along : Edges → Way → Edge → Bool
along set way e = set e && is_way e.way way

-- along a way whose edges alone lead through the cuts by a number, there are as many edges as the numbers of the pins lie apart
module _
    (g : Shape) (set : Edges) (pins : List ℕ) (number : ℕ → ℕ) (way : Way) (edges : List Edge)
    (within : AreInGrid g set) (pins_in : All (λ pin. pin < cells_of g) pins) (join : IsJoined g set pins)
    (grid : All (λ (e : Edge). has_edge g e ≡ true) edges)
    (part : (f : Edge → ℕ) (e : Edge) → IsTrue (has_edge g e) → is_way e.way way ≡ true → f e ≤ sum_by f edges)
    (crossed : (x : ℕ) (e : Edge) → IsTrue (has_edge g e) → leads_through g (λ cell. nat_le (number cell) x) e ≡ (is_way e.way way && number e.low == x))
  where
    abbrev hit : ℕ → Edge → Bool
    hit x e = leads_through g (λ cell. nat_le (number cell) x) e

    hit-once : (x : ℕ) → least_of (map number pins) ≤ x → x < most_of (map number pins) → 1 ≤ count_by (λ e. along set way e && hit x e) edges
    hit-once x low high =
        let parted =
        parted-between number x pins ∙ and_from (nat_le (least_of (map number pins)) x) (nat_lt x (most_of (map number pins)))
        (le-leb (least_of (map number pins)) x low) (lt-ltb x (most_of (map number pins)) high) in
        let found = parted-leaves g set within (λ cell. nat_le (number cell) x) pins pins_in join parted in
        let e : Edge = found.0 in
        let ways = and_parts (is_way e.way way) (number e.low == x) (sym (crossed x e found.1.grid) ∙ found.1.through) in
        let one : Edge → ℕ = λ f. cond (along set way f && hit x f) 1 0 in
        let is : one e ≡ 1 = rw (found.1.among, ways.0, found.1.through) refl in
        let counted = part one e found.1.grid ways.0 in
        omega (arith, is, counted)

    pub spread-counted : spread (map number pins) ≤ count_by (along set way) edges
    spread-counted =
        let from : ℕ = least_of (map number pins) in
        let count : ℕ = spread (map number pins) in
        let long = length-range_with_len from count in
        let total =
        tests-counted (along set way) hit edges (range_with_len from count)
        (each-in-range (λ x. 1 ≤ count_by (λ e. along set way e && hit x e) edges) from count
        (λ x low high. hit-once x low (omega arith)))
        (λ k d below.
        let e : Edge = slice_index_or edges k d in
        let once = once-in-range (is_way e.way way) (number e.low) from count in
        let alike =
        count-alike (λ x. hit x e) (λ x. is_way e.way way && number e.low == x) (range_with_len from count) (λ x. crossed x e (grid k d below)) in
        omega (arith, once, alike)) in
        omega (arith, long, total)

-- ---- columns, rows and layers

wire-way : (e : Edge) (way : Way) → is_wire_way way ≡ true → is_way e.way way ≡ true → is_wire e ≡ true
wire-way e way wire is = by e.way way wire is
  where
    by : (a b : Way) → is_wire_way b ≡ true → is_way a b ≡ true → is_wire_way a ≡ true
    by East b wire is = refl
    by North b wire is = refl
    by Up East wire is = absurd (false≢true is)
    by Up North wire is = absurd (false≢true is)
    by Up Up wire is = wire

pub way-is-up : (way : Way) → is_way way Up ≡ true → way ≡ Up
way-is-up East is = absurd (false≢true is)
way-is-up North is = absurd (false≢true is)
way-is-up Up is = refl

-- the edges east and the edges north are no more than all
both-ways-few : (set : Edges) (edges : List Edge) → count_by (along set East) edges + count_by (along set North) edges ≤ count_by set edges
both-ways-few set edges =
    let east : Edge → ℕ = λ e. cond (along set East e) 1 0 in
    let north : Edge → ℕ = λ e. cond (along set North e) 1 0 in
    let split = sum-plus east north edges in
    let each =
    sum-le (λ e. east e + north e) (λ e. cond (set e) 1 0) edges (λ k d below.
    let e : Edge = slice_index_or edges k d in by (set e) e.way) in
    omega (arith, split, each)
  where
    by : (b : Bool) (way : Way) → cond {A = ℕ} (b && is_way way East) 1 0 + cond (b && is_way way North) 1 0 ≤ cond b 1 0
    by true East = omega arith
    by true North = omega arith
    by true Up = omega arith
    by false way = omega arith

pub box-counted : (g : Shape) (set : Edges) (pins : List ℕ) → AreInGrid g set → All (λ pin. pin < cells_of g) pins → IsJoined g set pins →
    spread (map (column_of g) pins) + spread (map (row_of g) pins) ≤ count_by set (wire_edges g)
box-counted g set pins within pins_in join =
    let edges : List Edge = wire_edges g in
    let columns =
    spread-counted g set pins (column_of g) East edges within pins_in join (wires-in-grid g)
    (λ f e edge is. wire-part g f e edge (wire-way e East refl is)) (column-crossed g) in
    let rows =
    spread-counted g set pins (row_of g) North edges within pins_in join (wires-in-grid g)
    (λ f e edge is. wire-part g f e edge (wire-way e North refl is)) (row-crossed g) in
    let few = both-ways-few set edges in
    omega (arith, columns, rows, few)

pub layers-counted : (g : Shape) (set : Edges) (pins : List ℕ) → AreInGrid g set → All (λ pin. pin < cells_of g) pins → IsJoined g set pins →
    least_vias g pins ≤ count_by set (via_edges g)
layers-counted g set pins within pins_in join =
    let edges : List Edge = via_edges g in
    let layers =
    spread-counted g set pins (layer_of g) Up edges within pins_in join (vias-in-grid g)
    (λ f e edge is. via-part g f e edge (way-is-up e.way is)) (layer-crossed g) in
    let few =
    sum-le (λ e. cond (along set Up e) 1 0) (λ e. cond (set e) 1 0) edges (λ k d below.
    let e : Edge = slice_index_or edges k d in by (set e) (is_way e.way Up)) in
    omega (arith, layers, few)
  where
    by : (b c : Bool) → cond {A = ℕ} (b && c) 1 0 ≤ cond b 1 0
    by true true = omega arith
    by true false = omega arith
    by false c = omega arith
