-- Cuts along columns, rows and layers: the edges that lead through, and the pins that are parted.
use Rattle.std.proofs.Common.{◌≡◌, ℕ, ◌+◌, ◌<◌, ◌≤◌, ◌&&◌, ◌||◌, ◌==◌, not, nat_le, nat_lt, ◌⊎◌, inl, inr, Bool, true, false, max, min, List, [], ◌∷◌, map, fold, IsTrue, refl, sym, ap, ◌∙◌, arith}
use Rattle.std.specs.List.{list_any}
use Rattle.std.proofs.lemmas.Bool.{cases_Bool, cases_lt, cases_eq, true_from_ne_false, and_right, le-ltb, and_from, and_parts, or_cases, or_parts, or_left, or_right, both_ways, false≢true, leb-true, leb-false, le-leb, lt-leb, ltb-true, lt-ltb, eq-eqb, ne_eqb, not_from_false, not-true, not-false}
use Rattle.gr_base.proofs.General.{same-truth}
use Rattle.gr_base.specs.declared.grid.Cell.{Cell}
use Rattle.gr_base.specs.declared.grid.Edge.{Edge}
use Rattle.gr_base.specs.declared.grid.Shape.{Shape}
use Rattle.gr_base.specs.declared.grid.Way.{Way}
use Rattle.gr_base.specs.declared.grid.Way.TheVariants.{East, North, Up}
use Rattle.gr_base.specs.EdgeSets.{is_way}
use Rattle.gr_base.specs.Grid.{place_at, beyond, has_edge}
use Rattle.wall_laws.proofs.GridLists.{place-beyond}
use Rattle.wall_laws.specs.Spans.{column_of, row_of, layer_of, is_low, least_of, most_of}
use Rattle.wall_laws.specs.Walls.{differ, leads_through, column_cut, row_cut, crosses, is_parted}

-- ---- edges

pub differ-alike : (b : Bool) → differ b b ≡ false
differ-alike true = refl
differ-alike false = refl

pub differ-next : (a x : ℕ) → differ (nat_le a x) (nat_le (a + 1) x) ≡ (a == x)
differ-next a x =
    elim (cases_lt x a) [
      | inl high ↦ rw (lt-leb a x high, lt-leb (a + 1) x (omega arith), ne_eqb a x (λ same. omega (arith, same))) refl
      | inr low ↦ elim (cases_eq a x) [
        | inl same ↦ rw (le-leb a x low, lt-leb (a + 1) x (omega arith), eq-eqb a x same) refl
        | inr other ↦ rw (le-leb a x low, le-leb (a + 1) x (omega arith), ne_eqb a x other) refl
      ]
    ]

-- whether an edge leads through, by the place of its low end
pub through-at : (g : Shape) (inside : Cell → Bool) (e : Edge) (way : Way) → IsTrue (has_edge g e) → e.way ≡ way →
    leads_through g (λ cell. inside (place_at g cell)) e ≡ differ (inside (place_at g e.low)) (inside (beyond (place_at g e.low) way))
through-at g inside e way edge is = ap (λ (place : Cell). differ (inside (place_at g e.low)) (inside place)) (place-beyond g e way edge is)

-- just the edges east from a column cross the cut behind it
pub column-crossed : (g : Shape) (last : ℕ) (e : Edge) → IsTrue (has_edge g e) →
    crosses g (column_cut last) e ≡ (is_way e.way East && column_of g e.low == last)
column-crossed g last e edge = by e.way refl
  where
    inside : Cell → Bool
    inside place = nat_le place.x last

    by : (way : Way) → e.way ≡ way → crosses g (column_cut last) e ≡ (is_way way East && column_of g e.low == last)
    by East is = through-at g inside e East edge is ∙ differ-next (place_at g e.low).x last
    by North is = through-at g inside e North edge is ∙ differ-alike (inside (place_at g e.low))
    by Up is = through-at g inside e Up edge is ∙ differ-alike (inside (place_at g e.low))

-- just the edges north from a row cross the cut behind it
pub row-crossed : (g : Shape) (last : ℕ) (e : Edge) → IsTrue (has_edge g e) →
    crosses g (row_cut last) e ≡ (is_way e.way North && row_of g e.low == last)
row-crossed g last e edge = by e.way refl
  where
    inside : Cell → Bool
    inside place = nat_le place.y last

    by : (way : Way) → e.way ≡ way → crosses g (row_cut last) e ≡ (is_way way North && row_of g e.low == last)
    by East is = through-at g inside e East edge is ∙ differ-alike (inside (place_at g e.low))
    by North is = through-at g inside e North edge is ∙ differ-next (place_at g e.low).y last
    by Up is = through-at g inside e Up edge is ∙ differ-alike (inside (place_at g e.low))

-- just the edges up from a layer lead out of the layers up to it
pub layer-crossed : (g : Shape) (layer : ℕ) (e : Edge) → IsTrue (has_edge g e) →
    leads_through g (is_low g layer) e ≡ (is_way e.way Up && layer_of g e.low == layer)
layer-crossed g layer e edge = by e.way refl
  where
    inside : Cell → Bool
    inside place = nat_le place.layer layer

    by : (way : Way) → e.way ≡ way → leads_through g (is_low g layer) e ≡ (is_way way Up && layer_of g e.low == layer)
    by East is = through-at g inside e East edge is ∙ differ-alike (inside (place_at g e.low))
    by North is = through-at g inside e North edge is ∙ differ-alike (inside (place_at g e.low))
    by Up is = through-at g inside e Up edge is ∙ differ-next (place_at g e.low).layer layer

-- ---- pins

fold-min-above : (x a : ℕ) (ns : List ℕ) → x < a → list_any (λ n. nat_le n x) ns ≡ false → x < fold min a ns
fold-min-above x a [] above none = above
fold-min-above x a (n ∷ ns) above none =
    let parts = or_parts (nat_le n x) (list_any (λ m. nat_le m x) ns) none in
    let high = leb-false n x parts.0 in
    fold-min-above x (min a n) ns (omega (arith, above, high)) parts.1

fold-max-below : (x a : ℕ) (ns : List ℕ) → a ≤ x → list_any (λ n. not (nat_le n x)) ns ≡ false → fold max a ns ≤ x
fold-max-below x a [] below none = below
fold-max-below x a (n ∷ ns) below none =
    let parts = or_parts (not (nat_le n x)) (list_any (λ m. not (nat_le m x)) ns) none in
    let low = leb-true n x (not-false (nat_le n x) parts.0) in
    fold-max-below x (max a n) ns (omega (arith, below, low)) parts.1

fold-min-within : (x a : ℕ) (ns : List ℕ) → list_any (λ n. nat_le n x) (a ∷ ns) ≡ true → fold min a ns ≤ x
fold-min-within x a [] some =
    elim (or_cases (nat_le a x) false some) [
      | inl here ↦ leb-true a x here
      | inr none ↦ absurd (false≢true none)
    ]
fold-min-within x a (n ∷ ns) some = fold-min-within x (min a n) ns (or-either (cases_Bool (nat_le a x)))
  where
    rest : Bool
    rest = list_any (λ m. nat_le m x) ns

    or-either : (nat_le a x ≡ true) ⊎ (nat_le a x ≡ false) → (nat_le (min a n) x || rest) ≡ true
    or-either (inl here) =
        let le = leb-true a x here in
        or_left (nat_le (min a n) x) rest (le-leb (min a n) x (omega (arith, le)))
    or-either (inr away) =
        let later : (nat_le n x || rest) ≡ true = rw away at some in
        elim (or_cases (nat_le n x) rest later) [
          | inl next ↦
              let le = leb-true n x next in
              or_left (nat_le (min a n) x) rest (le-leb (min a n) x (omega (arith, le)))
          | inr last ↦ or_right (nat_le (min a n) x) rest last
        ]

fold-max-beyond : (x a : ℕ) (ns : List ℕ) → list_any (λ n. not (nat_le n x)) (a ∷ ns) ≡ true → x < fold max a ns
fold-max-beyond x a [] some =
    elim (or_cases (not (nat_le a x)) false some) [
      | inl here ↦ leb-false a x (not-true (nat_le a x) here)
      | inr none ↦ absurd (false≢true none)
    ]
fold-max-beyond x a (n ∷ ns) some = fold-max-beyond x (max a n) ns (or-either (cases_Bool (nat_le a x)))
  where
    rest : Bool
    rest = list_any (λ m. not (nat_le m x)) ns

    higher : x < max a n → (not (nat_le (max a n) x) || rest) ≡ true
    higher lt = or_left (not (nat_le (max a n) x)) rest (not_from_false (nat_le (max a n) x) (lt-leb (max a n) x lt))

    or-either : (nat_le a x ≡ true) ⊎ (nat_le a x ≡ false) → (not (nat_le (max a n) x) || rest) ≡ true
    or-either (inr away) = let lt = leb-false a x away in higher (omega (arith, lt))
    or-either (inl here) =
        let later : (not (nat_le n x) || rest) ≡ true = rw here at some in
        elim (or_cases (not (nat_le n x)) rest later) [
          | inl next ↦ let lt = leb-false n x (not-true (nat_le n x) next) in higher (omega (arith, lt))
          | inr last ↦ or_right (not (nat_le (max a n) x)) rest last
        ]

any-map : {X Y : Type 0} (p : Y → Bool) (f : X → Y) (xs : List X) → list_any p (map f xs) ≡ list_any (λ x. p (f x)) xs
any-map p f [] = refl
any-map p f (x ∷ xs) = ap (λ (b : Bool). p (f x) || b) (any-map p f xs)

-- some numbers are at most one and some above just where it is between the least and the greatest
numbers-parted : (x : ℕ) (ns : List ℕ) →
    (list_any (λ n. nat_le n x) ns && list_any (λ n. not (nat_le n x)) ns) ≡ (nat_le (least_of ns) x && nat_lt x (most_of ns))
numbers-parted x [] = sym (and_right (nat_le 0 x) (nat_lt x 0) (le-ltb x 0 (omega arith)))
numbers-parted x (a ∷ ns) = same-truth (low && high) (nat_le (fold min a ns) x && nat_lt x (fold max a ns)) to from
  where
    low : Bool
    low = list_any (λ n. nat_le n x) (a ∷ ns)

    high : Bool
    high = list_any (λ n. not (nat_le n x)) (a ∷ ns)

    to : (low && high) ≡ true → (nat_le (fold min a ns) x && nat_lt x (fold max a ns)) ≡ true
    to both =
        let parts = and_parts low high both in
        and_from (nat_le (fold min a ns) x) (nat_lt x (fold max a ns))
        (le-leb (fold min a ns) x (fold-min-within x a ns parts.0)) (lt-ltb x (fold max a ns) (fold-max-beyond x a ns parts.1))

    from : (nat_le (fold min a ns) x && nat_lt x (fold max a ns)) ≡ true → (low && high) ≡ true
    from both =
        let parts = and_parts (nat_le (fold min a ns) x) (nat_lt x (fold max a ns)) both in
        let least = leb-true (fold min a ns) x parts.0 in
        let most = ltb-true x (fold max a ns) parts.1 in
        and_from low high
        (true_from_ne_false low (λ none.
        let halves = or_parts (nat_le a x) (list_any (λ n. nat_le n x) ns) none in
        let above = fold-min-above x a ns (leb-false a x halves.0) halves.1 in
        omega (arith, above, least)))
        (true_from_ne_false high (λ none.
        let halves = or_parts (not (nat_le a x)) (list_any (λ n. not (nat_le n x)) ns) none in
        let below = fold-max-below x a ns (leb-true a x (not-false (nat_le a x) halves.0)) halves.1 in
        omega (arith, below, most)))

-- a cut by a number of each cell parts pins just where it is between their least and greatest numbers
pub parted-between : (number : ℕ → ℕ) (x : ℕ) (pins : List ℕ) →
    is_parted (λ cell. nat_le (number cell) x) pins ≡ (nat_le (least_of (map number pins)) x && nat_lt x (most_of (map number pins)))
parted-between number x pins =
    ap (λ (b : Bool). b && list_any (λ cell. not (nat_le (number cell) x)) pins) (sym (any-map (λ n. nat_le n x) number pins))
    ∙ ap (λ (b : Bool). list_any (λ n. nat_le n x) (map number pins) && b) (sym (any-map (λ n. not (nat_le n x)) number pins))
    ∙ numbers-parted x (map number pins)
