-- Vias that pins force where low wires can't leave their row or their column.
use Rattle.std.proofs.Common.{◌≡◌, ℕ, zero, suc, ◌+◌, ◌-◌, ◌<◌, ◌≤◌, ◌&&◌, ◌||◌, ◌==◌, ◌⊎◌, inl, inr, not, nat_le, max, Bool, true, false, cond, List, [], ◌∷◌, map, filter, take, length, All, slice_index_or, slice_get, get_or, Option, Some, None, count_by, sum_by, if◌then◌else◌, IsTrue, refl, sym, ap, subst, ◌∙◌, arith}
use Rattle.std.specs.List.{list_any, list_all, range_with_len}
use Rattle.std.proofs.lemmas.Bool.{cases_Bool, and_from, and_parts, and_left, or_left, or_right, or_cases, leb-true, ne_eqb, eqb-true, eq-eqb, not-false, not-true, true_from_ne_false, both_ways, false≢true}
use Rattle.std.proofs.lemmas.Option.{none-some, same_Some}
use Rattle.std.proofs.lemmas.List.Elements.{All-nil, All-cons, All-head, All-tail, All-map, All-filter, All-weaker, filter_passes}
use Rattle.std.proofs.lemmas.List.Folds.{list_any_at}
use Rattle.std.proofs.lemmas.List.Sums.{sum_by-cons, list_all-from_AllPass}
use Rattle.gr_base.specs.declared.frame.Frame.{Frame}
use Rattle.gr_base.specs.declared.frame.Layer.{Layer}
use Rattle.gr_base.specs.declared.grid.Cell.{Cell}
use Rattle.gr_base.specs.declared.grid.Edge.{Edge}
use Rattle.gr_base.specs.declared.grid.Shape.{Shape}
use Rattle.gr_base.specs.declared.grid.Way.{Way}
use Rattle.gr_base.specs.declared.grid.Way.TheVariants.{East, North, Up}
use Rattle.gr_base.specs.Capacities.{layer_at, usable, usable_along}
use Rattle.gr_base.specs.Designs.{DesignView}
use Rattle.gr_base.specs.EdgeSets.{Edges, IsJoined, is_way}
use Rattle.gr_base.specs.Grid.{cells_of, place_at, beyond, has_edge, is_wire_way}
use Rattle.gr_base.specs.Sums.{via_edges}
use Rattle.gr_base.specs.Trees.{is_among}
use Rattle.wall_laws.proofs.CutLemmas.{differ-alike, differ-next, through-at, layer-crossed}
use Rattle.wall_laws.proofs.GridLists.{vias-in-grid, vias-are-vias, via-part}
use Rattle.wall_laws.proofs.OverflowLemmas.{none-passes}
use Rattle.wall_laws.proofs.SpanLemmas.{each-in-range, once-in-range, count-alike, way-is-up}
use Rattle.wall_laws.proofs.SumLemmas.{sum-le, sum-swap, sum-zero, tests-counted}
use Rattle.wall_laws.proofs.WalkLemmas.{AreInGrid, parted-leaves}
use Rattle.wall_laws.specs.Spans.{different, column_of, row_of, layer_of, is_low, is_blocked, forced_by, forced, vias_above, least_usable_vias}
use Rattle.wall_laws.specs.Walls.{differ, leads_through, is_parted}

-- ---- different numbers, each once

abbrev pub each_once : List ℕ → List ℕ
each_once [] = []
each_once (n ∷ ns) = if is_among ns n then each_once ns else n ∷ each_once ns

pub length-once : (ns : List ℕ) → length (each_once ns) ≡ different ns
length-once [] = refl
length-once (n ∷ ns) = by (is_among ns n) (length-once ns)
  where
    by : (b : Bool) → length (each_once ns) ≡ different ns →
        length (if b then each_once ns else n ∷ each_once ns) ≡ (if b then 0 else 1) + different ns
    by true is = omega (arith, is)
    by false is = omega (arith, is)

All-once : (P : ℕ → Type 0) (ns : List ℕ) → All P ns → All P (each_once ns)
All-once P [] each = each
All-once P (n ∷ ns) each = by (is_among ns n) (All-head P n ns each) (All-once P ns (All-tail P n ns each))
  where
    by : (b : Bool) → P n → All P (each_once ns) → All P (if b then each_once ns else n ∷ each_once ns)
    by true first rest = rest
    by false first rest = All-cons P n (each_once ns) first rest

-- a number that isn't among them is never there, and each is there once at most
never-once : (b : Bool) (a : ℕ) (ns : List ℕ) → is_among ns a ≡ false → count_by (λ n. b && a == n) (each_once ns) ≡ 0
never-once b a ns none =
    let apart = none-passes (λ m. m == a) ns none in
    let off : All (λ m. (b && a == m) ≡ false) ns = λ k d below. by b a (slice_index_or ns k d) (apart k d below) in
    zeros (λ m. b && a == m) (each_once ns) (All-once (λ m. (b && a == m) ≡ false) ns off)
  where
    by : (c : Bool) (x y : ℕ) → (y == x) ≡ false → (c && x == y) ≡ false
    by true x y apart = ne_eqb x y (λ same. both_ways (y == x) apart (eq-eqb y x (sym same)))
    by false x y apart = refl

    zeros : (p : ℕ → Bool) (xs : List ℕ) → All (λ m. p m ≡ false) xs → count_by p xs ≡ 0
    zeros p [] each = refl
    zeros p (x ∷ xs) each =
        let more = sum_by-cons (λ m. cond (p m) 1 0) x xs in
        let rest = zeros p xs (All-tail (λ m. p m ≡ false) x xs each) in
        let first : cond {A = ℕ} (p x) 1 0 ≡ 0 = rw (All-head (λ m. p m ≡ false) x xs each) refl in
        omega (arith, more, rest, first)

once-each : (b : Bool) (a : ℕ) (ns : List ℕ) → count_by (λ n. b && a == n) (each_once ns) ≤ 1
once-each b a [] = omega arith
once-each b a (n ∷ ns) = by (is_among ns n) refl (once-each b a ns)
  where
    by : (c : Bool) → is_among ns n ≡ c → count_by (λ m. b && a == m) (each_once ns) ≤ 1 →
        count_by (λ m. b && a == m) (if c then each_once ns else n ∷ each_once ns) ≤ 1
    by true is rest = rest
    by false is rest =
        let more = sum_by-cons (λ m. cond {A = ℕ} (b && a == m) 1 0) n (each_once ns) in
        elim (cases_Bool (b && a == n)) [
          | inl here ↦
              let same : a ≡ n = eqb-true a n (and_parts b (a == n) here).1 in
              let none = never-once b a ns (ap (is_among ns) same ∙ is) in
              let one : cond {A = ℕ} (b && a == n) 1 0 ≡ 1 = rw here refl in
              omega (arith, more, none, one)
          | inr away ↦
              let one : cond {A = ℕ} (b && a == n) 1 0 ≡ 0 = rw away refl in
              omega (arith, more, rest, one)
        ]

-- numbers that all are one number are just one
different-one : (r : ℕ) (ns : List ℕ) → All (λ n. n ≡ r) ns → 0 < length ns → different ns ≡ 1
different-one r [] each some = absurd (omega arith)
different-one r (n ∷ []) each some = refl
different-one r (n ∷ m ∷ ns) each some =
    let P : ℕ → Type 0 = λ x. x ≡ r in
    let tail = All-tail P n (m ∷ ns) each in
    let same : (m == n) ≡ true = eq-eqb m n (All-head P m ns tail ∙ sym (All-head P n (m ∷ ns) each)) in
    let among : is_among (m ∷ ns) n ≡ true = or_left (m == n) (is_among ns n) same in
    let none : cond {A = ℕ} (is_among (m ∷ ns) n) 0 1 ≡ 0 = rw among refl in
    let rest = different-one r (m ∷ ns) tail (omega arith) in
    omega (arith, none, rest)

-- ---- edges out of a low line

-- the cell is in this line, and at this layer or below
abbrev in_line : Shape → (ℕ → ℕ) → ℕ → ℕ → ℕ → Bool
in_line g line layer r cell = line cell == r && is_low g layer cell

-- an edge that leads out of a low line goes up from the layer, or it is a low edge that way
record IsLine (g : Shape) (line : ℕ → ℕ) (way : Way) : Type 0 where
  pub up : (layer r : ℕ) (e : Edge) → IsTrue (has_edge g e) → e.way ≡ Up →
      leads_through g (in_line g line layer r) e ≡ (layer_of g e.low == layer && line e.low == r)
  pub other : (layer r : ℕ) (e : Edge) → IsTrue (has_edge g e) → leads_through g (in_line g line layer r) e ≡ true →
      (e.way ≡ Up) ⊎ ((e.way ≡ way) × (is_low g layer e.low ≡ true))

differ-and : (a b c : Bool) → differ (a && b) (a && c) ≡ (a && differ b c)
differ-and true b c = refl
differ-and false b c = refl

differ-low : (a b c : Bool) → differ (a && c) (b && c) ≡ true → c ≡ true
differ-low a b true is = refl
differ-low a b false is = absurd (both_ways (differ (a && false) (b && false)) (none a b) is)
  where
    none : (x y : Bool) → differ (x && false) (y && false) ≡ false
    none true true = refl
    none true false = refl
    none false true = refl
    none false false = refl

and-swap : (a b : Bool) → (a && b) ≡ (b && a)
and-swap true true = refl
and-swap true false = refl
and-swap false true = refl
and-swap false false = refl

rows-are-lines : (g : Shape) → IsLine g (row_of g) North
rows-are-lines g = record { up = up; other = λ layer r e edge is. other layer r e edge is e.way refl }
  where
    inside : ℕ → ℕ → Cell → Bool
    inside layer r place = place.y == r && nat_le place.layer layer

    up : (layer r : ℕ) (e : Edge) → IsTrue (has_edge g e) → e.way ≡ Up →
        leads_through g (in_line g (row_of g) layer r) e ≡ (layer_of g e.low == layer && row_of g e.low == r)
    up layer r e edge is =
        let p : Cell = place_at g e.low in
        through-at g (inside layer r) e Up edge is ∙ differ-and (p.y == r) (nat_le p.layer layer) (nat_le (p.layer + 1) layer)
        ∙ ap (λ (b : Bool). p.y == r && b) (differ-next p.layer layer) ∙ and-swap (p.y == r) (p.layer == layer)

    other : (layer r : ℕ) (e : Edge) → IsTrue (has_edge g e) → leads_through g (in_line g (row_of g) layer r) e ≡ true → (way : Way) → e.way ≡ way →
        (e.way ≡ Up) ⊎ ((e.way ≡ North) × (is_low g layer e.low ≡ true))
    other layer r e edge through East is =
        let p : Cell = place_at g e.low in
        absurd (both_ways (leads_through g (in_line g (row_of g) layer r) e)
        (through-at g (inside layer r) e East edge is ∙ differ-alike (inside layer r p)) through)
    other layer r e edge through North is =
        let p : Cell = place_at g e.low in
        inr (is, differ-low (p.y == r) (p.y + 1 == r) (nat_le p.layer layer) (sym (through-at g (inside layer r) e North edge is) ∙ through))
    other layer r e edge through Up is = inl is

columns-are-lines : (g : Shape) → IsLine g (column_of g) East
columns-are-lines g = record { up = up; other = λ layer r e edge is. other layer r e edge is e.way refl }
  where
    inside : ℕ → ℕ → Cell → Bool
    inside layer r place = place.x == r && nat_le place.layer layer

    up : (layer r : ℕ) (e : Edge) → IsTrue (has_edge g e) → e.way ≡ Up →
        leads_through g (in_line g (column_of g) layer r) e ≡ (layer_of g e.low == layer && column_of g e.low == r)
    up layer r e edge is =
        let p : Cell = place_at g e.low in
        through-at g (inside layer r) e Up edge is ∙ differ-and (p.x == r) (nat_le p.layer layer) (nat_le (p.layer + 1) layer)
        ∙ ap (λ (b : Bool). p.x == r && b) (differ-next p.layer layer) ∙ and-swap (p.x == r) (p.layer == layer)

    other : (layer r : ℕ) (e : Edge) → IsTrue (has_edge g e) → leads_through g (in_line g (column_of g) layer r) e ≡ true → (way : Way) → e.way ≡ way →
        (e.way ≡ Up) ⊎ ((e.way ≡ East) × (is_low g layer e.low ≡ true))
    other layer r e edge through North is =
        let p : Cell = place_at g e.low in
        absurd (both_ways (leads_through g (in_line g (column_of g) layer r) e)
        (through-at g (inside layer r) e North edge is ∙ differ-alike (inside layer r p)) through)
    other layer r e edge through East is =
        let p : Cell = place_at g e.low in
        inr (is, differ-low (p.x == r) (p.x + 1 == r) (nat_le p.layer layer) (sym (through-at g (inside layer r) e East edge is) ∙ through))
    other layer r e edge through Up is = inl is

-- ---- unusable edges

all-first : (p : Layer → Bool) (xs : List Layer) (n i : ℕ) (x : Layer) → list_all p (take n xs) ≡ true → slice_get xs i ≡ Some x → i < n → p x ≡ true
all-first p [] n i x each is below = absurd (none-some x is)
all-first p (y ∷ ys) zero i x each is below = absurd (omega arith)
all-first p (y ∷ ys) (suc n) zero x each is below = ap p (sym (same_Some y x is)) ∙ (and_parts (p y) (list_all p (take n ys)) each).0
all-first p (y ∷ ys) (suc n) (suc i) x each is below =
    all-first p ys n i x (and_parts (p y) (list_all p (take n ys)) each).1 is (omega arith)

blocked-unusable : (d : DesignView) (way : Way) (layer : ℕ) (e : Edge) → is_wire_way way ≡ true → is_blocked d.frame way layer ≡ true → e.way ≡ way →
    is_low d.frame.shape layer e.low ≡ true → usable d e ≡ false
blocked-unusable d way layer e wire blocked is low =
    let at : ℕ = (place_at d.frame.shape e.low).layer in
    let below = leb-true at layer low in
    ap (λ (w : Way). usable_along w (layer_at d.frame e)) is
    ∙ by (layer_at d.frame e) (λ l found.
    not-true (usable_along way (Some l)) (all-first (λ (x : Layer). not (usable_along way (Some x))) d.frame.layers (layer + 1) at l blocked found (omega (arith, below))))
  where
    none : (w : Way) → is_wire_way w ≡ true → usable_along w None ≡ false
    none East wire = refl
    none North wire = refl
    none Up wire = absurd (false≢true wire)

    by : (o : Option Layer) → ((l : Layer) → o ≡ Some l → usable_along way (Some l) ≡ false) → usable_along way o ≡ false
    by None each = none way wire
    by (Some l) each = each l refl

-- ---- the vias above one layer

-- the set's edges up from a layer
abbrev up_from : Shape → Edges → ℕ → Edge → Bool
up_from g set layer e = set e && (is_way e.way Up && layer_of g e.low == layer)

up-found : (g : Shape) (set : Edges) (layer : ℕ) (e : Edge) (p : Edge → Bool) → IsTrue (has_edge g e) → IsTrue (set e) → e.way ≡ Up →
    (layer_of g e.low == layer) ≡ true → p e ≡ true → 1 ≤ count_by (λ f. up_from g set layer f && p f) (via_edges g)
up-found g set layer e p edge among up at holds =
    let one : Edge → ℕ = λ f. cond (up_from g set layer f && p f) 1 0 in
    let way : is_way e.way Up ≡ true = ap (λ (w : Way). is_way w Up) up in
    let is : one e ≡ 1 = rw (among, way, at, holds) refl in
    let part = via-part g one e edge up in
    omega (arith, part, is)

module _
    (d : DesignView) (set : Edges) (pins : List ℕ)
    (within : AreInGrid d.frame.shape set) (pins_in : All (λ pin. pin < cells_of d.frame.shape) pins) (join : IsJoined d.frame.shape set pins)
    (usable_all : (e : Edge) → IsTrue (set e) → IsTrue (usable d e))
    (layer : ℕ)
  where
    abbrev g : Shape
    g = d.frame.shape

    parted-above : (if is_parted (is_low g layer) pins then 1 else 0) ≤ count_by (up_from g set layer) (via_edges g)
    parted-above = by (is_parted (is_low g layer) pins) refl
      where
        by : (b : Bool) → is_parted (is_low g layer) pins ≡ b → (if b then 1 else 0) ≤ count_by (up_from g set layer) (via_edges g)
        by false is = omega arith
        by true is =
            let found = parted-leaves g set within (is_low g layer) pins pins_in join is in
            let e : Edge = found.0 in
            let parts = and_parts (is_way e.way Up) (layer_of g e.low == layer) (sym (layer-crossed g layer e found.1.grid) ∙ found.1.through) in
            let counted = up-found g set layer e (λ f. true) found.1.grid found.1.among (way-is-up e.way parts.0) parts.1 refl in
            let alike =
            count-alike (λ f. up_from g set layer f && true) (up_from g set layer) (via_edges g) (λ f. and-swap (up_from g set layer f) true) in
            omega (arith, counted, alike)

    module _ (line : ℕ → ℕ) (way : Way) (wire : is_wire_way way ≡ true) (shape : IsLine g line way) where
      abbrev low_lines : List ℕ
      low_lines = map line (filter (is_low g layer) pins)

      -- a line of a low pin parts the pins, unless it holds them all
      line-holds : (r : ℕ) → list_any (in_line g line layer r) pins ≡ true → list_any (λ pin. not (in_line g line layer r pin)) pins ≡ false →
          (list_all (is_low g layer) pins && different low_lines == 1) ≡ true
      line-holds r some none =
          let each : All (λ pin. in_line g line layer r pin ≡ true) pins =
          All-weaker (λ pin. not (in_line g line layer r pin) ≡ false) (λ pin. in_line g line layer r pin ≡ true)
          (λ pin. not-false (in_line g line layer r pin)) pins (none-passes (λ pin. not (in_line g line layer r pin)) pins none) in
          let low : All (λ pin. is_low g layer pin ≡ true) pins =
          All-weaker (λ pin. in_line g line layer r pin ≡ true) (λ pin. is_low g layer pin ≡ true)
          (λ pin is. (and_parts (line pin == r) (is_low g layer pin) is).1) pins each in
          let same : All (λ pin. line pin ≡ r) (filter (is_low g layer) pins) =
          All-filter (is_low g layer) (λ pin. line pin ≡ r) pins
          (All-weaker (λ pin. in_line g line layer r pin ≡ true) (λ pin. line pin ≡ r)
          (λ pin is. eqb-true (line pin) r (and_parts (line pin == r) (is_low g layer pin) is).0) pins each) in
          let one = different-one r low_lines (All-map (λ n. n ≡ r) line (filter (is_low g layer) pins) same) (some-low pins some) in
          and_from (list_all (is_low g layer) pins) (different low_lines == 1) (list_all-from_AllPass (is_low g layer) pins low)
          (eq-eqb (different low_lines) 1 one)
        where
          some-low : (xs : List ℕ) → list_any (in_line g line layer r) xs ≡ true → 0 < length (map line (filter (is_low g layer) xs))
          some-low [] is = absurd (false≢true is)
          some-low (x ∷ xs) is =
              elim (or_cases (in_line g line layer r x) (list_any (in_line g line layer r) xs) is) [
                | inl here ↦
                    let low = (and_parts (line x == r) (is_low g layer x) here).1 in
                    rw low (omega arith)
                | inr later ↦ by (is_low g layer x) (filter (is_low g layer) xs) (some-low xs later)
              ]
            where
              by : (b : Bool) (rest : List ℕ) → 0 < length (map line rest) → 0 < length (map line (cond b (x ∷ rest) rest))
              by true rest some = omega arith
              by false rest some = some

      -- from each line of a low pin an edge of the set goes up
      line-leaves : (blocked : is_blocked d.frame way layer ≡ true) → (list_all (is_low g layer) pins && different low_lines == 1) ≡ false →
          All (λ r. 1 ≤ count_by (λ e. up_from g set layer e && leads_through g (in_line g line layer r) e) (via_edges g)) low_lines
      line-leaves blocked more =
          All-map (λ r. 1 ≤ count_by (λ e. up_from g set layer e && leads_through g (in_line g line layer r) e) (via_edges g)) line
          (filter (is_low g layer) pins) (λ k e below. at (slice_index_or (filter (is_low g layer) pins) k e) (has k e below))
        where
          has : All (λ pin. list_any (in_line g line layer (line pin)) pins ≡ true) (filter (is_low g layer) pins)
          has k e below =
              All-filter (is_low g layer) (λ pin. is_low g layer pin ≡ true → list_any (in_line g line layer (line pin)) pins ≡ true) pins
              (λ i x lt low.
              let pin : ℕ = slice_index_or pins i x in
              list_any_at (in_line g line layer (line pin)) pins i x lt
              (and_from (line pin == line pin) (is_low g layer pin) (eq-eqb (line pin) (line pin) refl) low)) k e below
              (filter_passes (is_low g layer) pins k e below)

          at : (pin : ℕ) → list_any (in_line g line layer (line pin)) pins ≡ true →
              1 ≤ count_by (λ e. up_from g set layer e && leads_through g (in_line g line layer (line pin)) e) (via_edges g)
          at pin some =
              let inside : ℕ → Bool = in_line g line layer (line pin) in
              let other = true_from_ne_false (list_any (λ p. not (inside p)) pins) (λ none.
              both_ways (list_all (is_low g layer) pins && different low_lines == 1) more (line-holds (line pin) some none)) in
              let found =
              parted-leaves g set within inside pins pins_in join (and_from (list_any inside pins) (list_any (λ p. not (inside p)) pins) some other) in
              let e : Edge = found.0 in
              elim (shape.other layer (line pin) e found.1.grid found.1.through) [
                | inl up ↦
                    let parts =
                    and_parts (layer_of g e.low == layer) (line e.low == line pin) (sym (shape.up layer (line pin) e found.1.grid up) ∙ found.1.through) in
                    up-found g set layer e (leads_through g inside) found.1.grid found.1.among up parts.0 found.1.through
                | inr low ↦ absurd (both_ways (usable d e) (blocked-unusable d way layer e wire blocked low.0 low.1) (usable_all e found.1.among))
              ]

      forced-above : forced d.frame way line pins layer ≤ count_by (up_from g set layer) (via_edges g)
      forced-above = by (is_blocked d.frame way layer) refl (list_all (is_low g layer) pins && different low_lines == 1) refl
        where
          by : (b : Bool) → is_blocked d.frame way layer ≡ b → (c : Bool) → (list_all (is_low g layer) pins && different low_lines == 1) ≡ c →
              (if b then (if c then 0 else different low_lines) else 0) ≤ count_by (up_from g set layer) (via_edges g)
          by false is c all = omega arith
          by true is true all = omega arith
          by true is false all =
              let hit : ℕ → Edge → Bool = λ r e. leads_through g (in_line g line layer r) e in
              let ns : List ℕ = each_once low_lines in
              let long = length-once low_lines in
              let total =
              tests-counted (up_from g set layer) hit (via_edges g) ns
              (All-once (λ r. 1 ≤ count_by (λ e. up_from g set layer e && hit r e) (via_edges g)) low_lines (line-leaves is all))
              (λ k x below.
              let e : Edge = slice_index_or (via_edges g) k x in
              let once = once-each (layer_of g e.low == layer) (line e.low) low_lines in
              let alike =
              count-alike (λ r. hit r e) (λ r. layer_of g e.low == layer && line e.low == r) ns
              (λ r. shape.up layer r e (vias-in-grid g k x below) (vias-are-vias g k x below)) in
              omega (arith, once, alike)) in
              omega (arith, long, total)

    pub above-counted : vias_above d.frame pins layer ≤ count_by (up_from g set layer) (via_edges g)
    above-counted =
        let parted = parted-above in
        let rows = forced-above (row_of g) North refl (rows-are-lines g) in
        let columns = forced-above (column_of g) East refl (columns-are-lines g) in
        omega (arith, parted, rows, columns)

-- ---- the vias above all layers

pub vias-counted : (d : DesignView) (set : Edges) (pins : List ℕ) → AreInGrid d.frame.shape set → All (λ pin. pin < cells_of d.frame.shape) pins →
    IsJoined d.frame.shape set pins → ((e : Edge) → IsTrue (set e) → IsTrue (usable d e)) →
    least_usable_vias d.frame pins ≤ count_by set (via_edges d.frame.shape)
vias-counted d set pins within pins_in join usable_all =
    let edges : List Edge = via_edges d.frame.shape in
    let layers : List ℕ = range_with_len 0 (d.frame.shape.layers - 1) in
    let one : ℕ → Edge → ℕ = λ layer e. cond (up_from d.frame.shape set layer e) 1 0 in
    let each =
    sum-le (vias_above d.frame pins) (λ layer. sum_by (one layer) edges) layers
    (λ k x below. above-counted d set pins within pins_in join usable_all (slice_index_or layers k x)) in
    let swapped = sum-swap one layers edges in
    let few =
    sum-le (λ e. sum_by (λ layer. one layer e) layers) (λ e. cond (set e) 1 0) edges
    (λ k x below. let e : Edge = slice_index_or edges k x in by (set e) (is_way e.way Up) (layer_of d.frame.shape e.low)) in
    omega (arith, each, swapped, few)
  where
    by : (b c : Bool) (a : ℕ) → sum_by (λ layer. cond {A = ℕ} (b && (c && a == layer)) 1 0) (range_with_len 0 (d.frame.shape.layers - 1)) ≤ cond b 1 0
    by true c a = once-in-range c a 0 (d.frame.shape.layers - 1)
    by false c a = let none = sum-zero (range_with_len 0 (d.frame.shape.layers - 1)) in omega (arith, none)
