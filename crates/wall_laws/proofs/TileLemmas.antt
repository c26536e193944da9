-- A set that joins pins has at least as many wire edges as the pins have tiles, less one.
use Rattle.std.proofs.Common.{◌≡◌, ℕ, suc, ◌+◌, ◌-◌, ◌*◌, ◌/◌, ◌%◌, ◌<◌, ◌≤◌, ◌&&◌, ◌||◌, ◌==◌, ◌⊎◌, inl, inr, Bool, true, false, cond, List, [], ◌∷◌, map, length, All, slice_index_or, count_by, sum_by, if◌then◌else◌, IsTrue, refl, sym, ap, subst, ◌∙◌, arith}
use Rattle.std.proofs.lemmas.Bool.{cases_Bool, cases_eq, and_from, and_left, and_right, or_left, or_right, or_cases, eqb-true, eq-eqb, both_ways, false≢true}
use Rattle.std.proofs.lemmas.List.Elements.{All-nil, All-cons, All-head, All-tail}
use Rattle.std.proofs.lemmas.Nat.{div-add-mod', mod-mul-add, mod_below}
use Rattle.gr_base.proofs.GridLemmas.{edge-low}
use Rattle.gr_base.proofs.TreeDistinct.{is_edge-same}
use Rattle.gr_base.proofs.TreeEdges.{is_edge-refl}
use Rattle.gr_base.specs.declared.grid.Edge.{Edge}
use Rattle.gr_base.specs.declared.grid.Shape.{Shape}
use Rattle.gr_base.specs.declared.grid.Way.{Way}
use Rattle.gr_base.specs.declared.grid.Way.TheVariants.{East, North, Up}
use Rattle.gr_base.specs.EdgeSets.{Edges, is_edge, Leads, IsJoined}
use Rattle.gr_base.specs.EdgeSets.Leads.{Stays, Goes_on}
use Rattle.gr_base.specs.Grid.{cells_of, high_of, has_edge, is_wire, is_wire_way, stride, Joins}
use Rattle.gr_base.specs.Sums.{wire_edges}
use Rattle.gr_base.specs.Trees.{is_among}
use Rattle.route_evaluator.proofs.FloodLemmas.{joined}
use Rattle.wall_laws.proofs.GridLists.{wire-part}
use Rattle.wall_laws.proofs.OverflowLemmas.{none-passes}
use Rattle.wall_laws.proofs.SumLemmas.{sum-plus, sum-le}
use Rattle.wall_laws.proofs.WalkLemmas.{AreInGrid, walk-inside}
use Rattle.wall_laws.specs.Spans.{different, tile_number}

-- ---- different numbers

-- the numbers without one that is among them
record Without (numbers : List ℕ) (number : ℕ) : Type 0 where
  pub rest : List ℕ
  pub fewer : length numbers ≡ 1 + length rest
  pub keeps : (other : ℕ) → (other == number) ≡ false → is_among numbers other ≡ true → is_among rest other ≡ true

without : (numbers : List ℕ) (number : ℕ) → is_among numbers number ≡ true → Without numbers number
without [] number among = absurd (false≢true among)
without (n ∷ ns) number among =
    elim (or_cases (n == number) (is_among ns number) among) [
      | inl here ↦ record {
        rest = ns;
        fewer = omega arith;
        keeps = λ other apart found. elim (or_cases (n == other) (is_among ns other) found) [
          | inl same ↦
              let is : other ≡ number = sym (eqb-true n other same) ∙ eqb-true n number here in
              absurd (both_ways (other == number) apart (eq-eqb other number is))
          | inr later ↦ later
        ];
      }
      | inr later ↦
          let less = without ns number later in
          let fewer = less.fewer in
          record {
            rest = n ∷ less.rest;
            fewer = omega (arith, fewer);
            keeps = λ other apart found. elim (or_cases (n == other) (is_among ns other) found) [
              | inl same ↦ or_left (n == other) (is_among less.rest other) same
              | inr after ↦ or_right (n == other) (is_among less.rest other) (less.keeps other apart after)
            ];
          }
    ]

-- numbers that all are among others are no more different ones than those
pub different-among : (numbers others : List ℕ) → All (λ n. is_among others n ≡ true) numbers → different numbers ≤ length others
different-among [] others each = omega arith
different-among (n ∷ ns) others each =
    let P : ℕ → Type 0 = λ m. is_among others m ≡ true in
    let first = All-head P n ns each in
    let tail = All-tail P n ns each in
    elim (cases_Bool (is_among ns n)) [
      | inl again ↦
          let rest = different-among ns others tail in
          let none : cond {A = ℕ} (is_among ns n) 0 1 ≡ 0 = rw again refl in
          omega (arith, rest, none)
      | inr last ↦
          let less = without others n first in
          let apart = none-passes (λ m. m == n) ns last in
          let rest = different-among ns less.rest (λ k d below. less.keeps (slice_index_or ns k d) (apart k d below) (tail k d below)) in
          let one : cond {A = ℕ} (is_among ns n) 0 1 ≡ 1 = rw last refl in
          let fewer = less.fewer in
          omega (arith, rest, one, fewer)
    ]

-- ---- tiles that edges of the set join

-- the edge is in the set, and both its tiles are among these
abbrev is_within : Shape → Edges → List ℕ → Edge → Bool
is_within g set tiles e = set e && (is_among tiles (tile_number g e.low) && is_among tiles (tile_number g (high_of g e)))

-- there is at most one tile more than edges of the set between them
abbrev AreFew : Shape → Edges → List ℕ → Type 0
AreFew g set tiles = length tiles ≤ 1 + count_by (is_within g set tiles) (wire_edges g)

-- the two ends of an edge up are on one tile
tile-above : (g : Shape) (e : Edge) → IsTrue (has_edge g e) → e.way ≡ Up → tile_number g (high_of g e) ≡ tile_number g e.low
tile-above g e edge up =
    let size : ℕ = g.columns * g.rows in
    let below = edge-low g e edge in
    let some : 0 < size = elim (cases_eq size 0) [
      | inl none ↦ let cells : cells_of g ≡ 0 * g.layers = ap (λ (n : ℕ). n * g.layers) none in absurd (omega (arith, below, cells))
      | inr more ↦ omega (arith, more)
    ] in
    let high : high_of g e ≡ e.low + size = ap (λ (way : Way). e.low + stride g way) up in
    let parts = div-add-mod' e.low size in
    let whole : e.low + size ≡ (e.low / size + 1) * size + e.low % size = omega (arith, parts) in
    ap (λ (n : ℕ). n % size) (high ∙ whole) ∙ mod-mul-add (e.low / size + 1) size (e.low % size) (mod_below e.low size some)

-- so an edge between two tiles is a wire edge
tiles-apart : (g : Shape) (e : Edge) → IsTrue (has_edge g e) → (tile_number g (high_of g e) ≡ tile_number g e.low → ⊥) → is_wire e ≡ true
tiles-apart g e edge apart = by e.way refl
  where
    by : (way : Way) → e.way ≡ way → is_wire_way way ≡ true
    by East is = refl
    by North is = refl
    by Up is = absurd (apart (tile-above g e edge is))

-- one more tile, at the other end of an edge of the set
few-more : (g : Shape) (set : Edges) (tiles : List ℕ) (e : Edge) (a b : ℕ) → Joins g e a b → IsTrue (set e) →
    is_among tiles (tile_number g a) ≡ true → is_among tiles (tile_number g b) ≡ false → AreFew g set tiles → AreFew g set (tile_number g b ∷ tiles)
few-more g set tiles e a b joins among has hasn't few =
    let new : List ℕ = tile_number g b ∷ tiles in
    let edges : List Edge = wire_edges g in
    let old : Edge → ℕ = λ f. cond (is_within g set tiles f) 1 0 in
    let one : Edge → ℕ = λ f. cond (is_edge f e) 1 0 in
    let more : Edge → ℕ = λ f. cond (is_within g set new f) 1 0 in
    let low : ℕ = tile_number g e.low in
    let high : ℕ = tile_number g (high_of g e) in
    let ends : ((low ≡ tile_number g a) × (high ≡ tile_number g b)) ⊎ ((low ≡ tile_number g b) × (high ≡ tile_number g a)) =
    elim joins.ends [
      | inl at ↦ inl (ap (tile_number g) at.0, ap (tile_number g) at.1)
      | inr at ↦ inr (ap (tile_number g) at.0, ap (tile_number g) at.1)
    ] in
    let wire = tiles-apart g e joins.edge (λ same. apart low high ends same) in
    let counted : 1 ≤ sum_by one edges =
    let part = wire-part g one e joins.edge wire in
    let is : one e ≡ 1 = rw (is_edge-refl e) refl in
    omega (arith, part, is) in
    let each =
    sum-le (λ f. old f + one f) more edges (λ k d below. let f : Edge = slice_index_or edges k d in by f (cases_Bool (is_edge f e)) (outside low high ends) (both low high ends)) in
    let split = sum-plus old one edges in
    omega (arith, few, counted, each, split)
  where
    apart : (low high : ℕ) → ((low ≡ tile_number g a) × (high ≡ tile_number g b)) ⊎ ((low ≡ tile_number g b) × (high ≡ tile_number g a)) → high ≡ low → ⊥
    apart low high (inl at) same =
        both_ways (is_among tiles (tile_number g b)) hasn't (ap (is_among tiles) (sym at.1 ∙ same ∙ at.0) ∙ has)
    apart low high (inr at) same =
        both_ways (is_among tiles (tile_number g b)) hasn't (ap (is_among tiles) (sym at.0 ∙ sym same ∙ at.1) ∙ has)

    outside : (low high : ℕ) → ((low ≡ tile_number g a) × (high ≡ tile_number g b)) ⊎ ((low ≡ tile_number g b) × (high ≡ tile_number g a)) →
        (is_among tiles low && is_among tiles high) ≡ false
    outside low high (inl at) = and_right (is_among tiles low) (is_among tiles high) (ap (is_among tiles) at.1 ∙ hasn't)
    outside low high (inr at) = and_left (is_among tiles low) (is_among tiles high) (ap (is_among tiles) at.0 ∙ hasn't)

    first : (n : ℕ) → n ≡ tile_number g b → is_among (tile_number g b ∷ tiles) n ≡ true
    first n is = or_left (tile_number g b == n) (is_among tiles n) (eq-eqb (tile_number g b) n (sym is))

    later : (n : ℕ) → is_among tiles n ≡ true → is_among (tile_number g b ∷ tiles) n ≡ true
    later n is = or_right (tile_number g b == n) (is_among tiles n) is

    both : (low high : ℕ) → ((low ≡ tile_number g a) × (high ≡ tile_number g b)) ⊎ ((low ≡ tile_number g b) × (high ≡ tile_number g a)) →
        (is_among (tile_number g b ∷ tiles) low && is_among (tile_number g b ∷ tiles) high) ≡ true
    both low high (inl at) =
        and_from (is_among (tile_number g b ∷ tiles) low) (is_among (tile_number g b ∷ tiles) high)
        (later low (ap (is_among tiles) at.0 ∙ has)) (first high at.1)
    both low high (inr at) =
        and_from (is_among (tile_number g b ∷ tiles) low) (is_among (tile_number g b ∷ tiles) high)
        (first low at.0) (later high (ap (is_among tiles) at.1 ∙ has))

    grows : (c p q r s : Bool) → (p ≡ true → r ≡ true) → (q ≡ true → s ≡ true) → cond {A = ℕ} (c && (p && q)) 1 0 + 0 ≤ cond (c && (r && s)) 1 0
    grows true true true r s pr qs = rw (pr refl, qs refl) (omega arith)
    grows true true false r s pr qs = omega arith
    grows true false q r s pr qs = omega arith
    grows false p q r s pr qs = omega arith

    by : (f : Edge) → (is_edge f e ≡ true) ⊎ (is_edge f e ≡ false) →
        (is_among tiles (tile_number g e.low) && is_among tiles (tile_number g (high_of g e))) ≡ false →
        (is_among (tile_number g b ∷ tiles) (tile_number g e.low) && is_among (tile_number g b ∷ tiles) (tile_number g (high_of g e))) ≡ true →
        cond {A = ℕ} (is_within g set tiles f) 1 0 + cond (is_edge f e) 1 0 ≤ cond (is_within g set (tile_number g b ∷ tiles) f) 1 0
    by f (inl same) out in' =
        let Q : Edge → Type 0 = λ x.
        cond {A = ℕ} (is_within g set tiles x) 1 0 + cond (is_edge x e) 1 0 ≤ cond (is_within g set (tile_number g b ∷ tiles) x) 1 0 in
        let none : is_within g set tiles e ≡ false = rw (among, out) refl in
        let all : is_within g set (tile_number g b ∷ tiles) e ≡ true = rw (among, in') refl in
        let zero : cond {A = ℕ} (is_within g set tiles e) 1 0 ≡ 0 = rw none refl in
        let once : cond {A = ℕ} (is_edge e e) 1 0 ≡ 1 = rw (is_edge-refl e) refl in
        let one : cond {A = ℕ} (is_within g set (tile_number g b ∷ tiles) e) 1 0 ≡ 1 = rw all refl in
        subst Q (sym (is_edge-same f e same)) (omega (arith, zero, once, one))
    by f (inr other) out in' =
        rw other
        (grows (set f) (is_among tiles (tile_number g f.low)) (is_among tiles (tile_number g (high_of g f)))
        (is_among (tile_number g b ∷ tiles) (tile_number g f.low)) (is_among (tile_number g b ∷ tiles) (tile_number g (high_of g f)))
        (later (tile_number g f.low)) (later (tile_number g (high_of g f))))

-- ---- along walks

-- these tiles and more, the cell's among them
record Reaches (g : Shape) (set : Edges) (before : List ℕ) (cell : ℕ) : Type 0 where
  pub tiles : List ℕ
  pub few : AreFew g set tiles
  pub keeps : (tile : ℕ) → is_among before tile ≡ true → is_among tiles tile ≡ true
  pub has : is_among tiles (tile_number g cell) ≡ true

reaches-next : (g : Shape) (set : Edges) (before : List ℕ) (e : Edge) (a b : ℕ) → Joins g e a b → IsTrue (set e) → Reaches g set before a → Reaches g set before b
reaches-next g set before e a b joins among reach =
    elim (cases_Bool (is_among reach.tiles (tile_number g b))) [
      | inl has ↦ record { tiles = reach.tiles; few = reach.few; keeps = reach.keeps; has = has }
      | inr hasn't ↦ record {
        tiles = tile_number g b ∷ reach.tiles;
        few = few-more g set reach.tiles e a b joins among reach.has hasn't reach.few;
        keeps = λ tile is. or_right (tile_number g b == tile) (is_among reach.tiles tile) (reach.keeps tile is);
        has = or_left (tile_number g b == tile_number g b) (is_among reach.tiles (tile_number g b)) (eq-eqb (tile_number g b) (tile_number g b) refl);
      }
    ]

walk-reaches : (g : Shape) (set : Edges) → AreInGrid g set → (before : List ℕ) → AreFew g set before → (a b : ℕ) → a < cells_of g →
    is_among before (tile_number g a) ≡ true → Leads g set a b → Reaches g set before b
walk-reaches g set within before few a _ a_in has Stays = record { tiles = before; few = few; keeps = λ tile is. is; has = has }
walk-reaches g set within before few a c a_in has (Goes_on {b = b} {e = e} walk edge among) =
    reaches-next g set before e b c (joined g b c e (walk-inside g set within a b a_in walk) edge (within e among)) among
    (walk-reaches g set within before few a b a_in has walk)

-- these tiles and more, those of all the cells among them
record ReachesAll (g : Shape) (set : Edges) (before cells : List ℕ) : Type 0 where
  pub tiles : List ℕ
  pub few : AreFew g set tiles
  pub keeps : (tile : ℕ) → is_among before tile ≡ true → is_among tiles tile ≡ true
  pub each : All (λ tile. is_among tiles tile ≡ true) (map (tile_number g) cells)

walks-reach : (g : Shape) (set : Edges) → AreInGrid g set → (before : List ℕ) → AreFew g set before → (first : ℕ) → first < cells_of g →
    is_among before (tile_number g first) ≡ true → (cells : List ℕ) → All (Leads g set first) cells → ReachesAll g set before cells
walks-reach g set within before few first first_in has [] walks =
    record { tiles = before; few = few; keeps = λ tile is. is; each = All-nil (λ tile. is_among before tile ≡ true) }
walks-reach g set within before few first first_in has (cell ∷ cells) walks =
    let one = walk-reaches g set within before few first cell first_in has (All-head (Leads g set first) cell cells walks) in
    let all =
    walks-reach g set within one.tiles one.few first first_in (one.keeps (tile_number g first) has) cells (All-tail (Leads g set first) cell cells walks) in
    record {
      tiles = all.tiles;
      few = all.few;
      keeps = λ tile is. all.keeps tile (one.keeps tile is);
      each =
          All-cons (λ tile. is_among all.tiles tile ≡ true) (tile_number g cell) (map (tile_number g) cells) (all.keeps (tile_number g cell) one.has) all.each;
    }

pub tiles-counted : (g : Shape) (set : Edges) (pins : List ℕ) → AreInGrid g set → All (λ pin. pin < cells_of g) pins → IsJoined g set pins →
    different (map (tile_number g) pins) - 1 ≤ count_by set (wire_edges g)
tiles-counted g set [] within pins_in join = omega arith
tiles-counted g set (first ∷ pins) within pins_in join =
    let start : List ℕ = tile_number g first ∷ [] in
    let has = or_left (tile_number g first == tile_number g first) false (eq-eqb (tile_number g first) (tile_number g first) refl) in
    let first_in = All-head (λ pin. pin < cells_of g) first pins pins_in in
    let all = walks-reach g set within start (omega arith) first first_in has (first ∷ pins) join in
    let most = different-among (map (tile_number g) (first ∷ pins)) all.tiles all.each in
    let few = all.few in
    let part =
    sum-le (λ e. cond (is_within g set all.tiles e) 1 0) (λ e. cond (set e) 1 0) (wire_edges g)
    (λ k d below. let e : Edge = slice_index_or (wire_edges g) k d in
    by (set e) (is_among all.tiles (tile_number g e.low) && is_among all.tiles (tile_number g (high_of g e)))) in
    omega (arith, most, few, part)
  where
    by : (b c : Bool) → cond {A = ℕ} (b && c) 1 0 ≤ cond b 1 0
    by true true = omega arith
    by true false = omega arith
    by false c = omega arith
