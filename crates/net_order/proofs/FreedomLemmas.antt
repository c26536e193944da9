-- The tiles of a net's pins.
use Rattle.std.proofs.Common.{◌≡◌, ℕ, ◌+◌, ◌*◌, ◌%◌, ◌/◌, ◌<◌, ◌≤◌, inl, inr, Bool, true, false, ◌||◌, ◌&&◌, ◌==◌, eq-eqb, ne_eqb, List, [], ◌∷◌, ◌++◌, length, map, fold, take, get_or, slice_get, Some, IsTrue, refl, sym, ap, subst, ◌∙◌, arith}
use Rattle.std.specs.List.{list_any}
use Rattle.std.proofs.lemmas.Bool.{cases_Bool, cases_eq}
use Rattle.std.proofs.lemmas.Bool.Decides.{nat_tests}
use Rattle.std.proofs.lemmas.List.{take_more, length-append}
use Rattle.std.proofs.lemmas.List.Folds.{list_any-append}
use Rattle.std.proofs.lemmas.List.Sums.{fold_push}
use Rattle.std.proofs.lemmas.Nat.{mod_below, mod-mul-add, div-mul-add}
use Rattle.std.proofs.Math.Arith.{mod-mul}
use Rattle.std.proofs.Math.Nat.{mul-le-mul_left}
use Rattle.gr_base.specs.declared.grid.Shape.{Shape}
use Rattle.gr_base.proofs.GridLemmas.{some_columns, some_rows, some_layers}
use Rattle.gr_base.specs.Designs.{DesignView, IsDesign, is_routed, pins_at}
use Rattle.gr_base.specs.declared.frame.Net.{Net}
use Rattle.maze_route.specs.declared.window.Window.{Window}
use Rattle.net_plan.specs.Mazes.{window_of}
use Rattle.net_plan.proofs.PlanLemmas.{net-of, pins-of, routed-few}
use Rattle.net_plan.proofs.WindowLemmas.{has-window}
use Rattle.steiner_topology.specs.Tile.{Tile}
use Rattle.net_plan.specs.FlatTrees.{tile_under, is_tile, with_tile, distinct_tiles}
use Rattle.net_plan.proofs.TileLemmas.{with_tile-new, with_tile-old}

-- a tile's number among the tiles tells its column and its row
tile-number : (g : Shape) (n : ℕ) → n % (g.rows * g.columns) ≡ (n / g.columns % g.rows) * g.columns + n % g.columns
tile-number g n = mod-mul n (some_rows g) (some_columns g)

same-number : (g : Shape) (a b : ℕ) → b % (g.rows * g.columns) ≡ a % (g.rows * g.columns) →
    (a % g.columns ≡ b % g.columns) × (a / g.columns % g.rows ≡ b / g.columns % g.rows)
same-number g a b e =
    let c = g.columns in
    let below = mod_below a c (some_columns g) in
    let other_below = mod_below b c (some_columns g) in
    let same : (b / c % g.rows) * c + b % c ≡ (a / c % g.rows) * c + a % c = sym (tile-number g b) ∙ e ∙ tile-number g a in (
      sym (mod-mul-add (a / c % g.rows) c (a % c) below) ∙ ap (λ (n : ℕ). n % c) (sym same) ∙ mod-mul-add (b / c % g.rows) c (b % c) other_below,
      sym (div-mul-add (a / c % g.rows) c (a % c) below) ∙ ap (λ (n : ℕ). n / c) (sym same) ∙ div-mul-add (b / c % g.rows) c (b % c) other_below,
    )

both-true : (s t : Bool) → s ≡ true → t ≡ true → (s && t) ≡ true
both-true s t p q = rw (p, q) refl

one-false : (s t : Bool) → s ≡ false → (s && t) ≡ false
one-false s t p = rw p refl

other-false : (s t : Bool) → t ≡ false → (s && t) ≡ false
other-false true t p = p
other-false false t p = refl

same-tile : (g : Shape) (a b : ℕ) → is_tile (tile_under g a) (tile_under g b) ≡ (b % (g.rows * g.columns) == a % (g.rows * g.columns))
same-tile g a b =
    let c = g.columns in
    let r = g.rows in
    let ax = a % c in
    let ay = a / c % r in
    let bx = b % c in
    let by = b / c % r in
    elim (cases_eq ax bx) [
      | inl x ↦
          elim (cases_eq ay by) [
            | inl y ↦
                both-true (ax == bx) (ay == by) (eq-eqb ax bx x) (eq-eqb ay by y)
                ∙ sym (eq-eqb (b % (r * c)) (a % (r * c))
                (tile-number g b ∙ ap (λ (n : ℕ). n * c + bx) (sym y) ∙ ap (λ (n : ℕ). ay * c + n) (sym x) ∙ sym (tile-number g a)))
            | inr y ↦
                other-false (ax == bx) (ay == by) (ne_eqb ay by y) ∙ sym (ne_eqb (b % (r * c)) (a % (r * c)) (λ e. y ((same-number g a b e).1)))
          ]
      | inr x ↦
          one-false (ax == bx) (ay == by) (ne_eqb ax bx x) ∙ sym (ne_eqb (b % (r * c)) (a % (r * c)) (λ e. x ((same-number g a b e).0)))
    ]

-- a tile is among the distinct tiles where it is one of the tiles
tile-is : (t u : Tile) → is_tile t u ≡ true → t ≡ u
tile-is t u same = same-pair t.0 t.1 u.0 u.1 (first (t.0 == u.0) (t.1 == u.1) same refl) (second (t.0 == u.0) (t.1 == u.1) same refl)
  where
    same-pair : (a b c d : ℕ) → a ≡ c → b ≡ d → ◌≡◌ {A = Tile} (a, b) (c, d)
    same-pair a b c d x y = cc

    first : (s v : Bool) → (s && v) ≡ true → (t.0 == u.0) ≡ s → t.0 ≡ u.0
    first true v p q = grind (arith, nat_tests)
    first false v p q = absurd (cc)

    second : (s v : Bool) → (s && v) ≡ true → (t.1 == u.1) ≡ v → t.1 ≡ u.1
    second true true p q = grind (arith, nat_tests)
    second true false p q = absurd (cc)
    second false v p q = absurd (cc)

or-same : (a b c : Bool) → (b ≡ true → a ≡ true) → (a || c) ≡ (a || (b || c))
or-same true b c f = refl
or-same false true c f = absurd (cc (f refl))
or-same false false c f = refl

or-more : (a b c : Bool) → ((a || (b || false)) || c) ≡ (a || (b || c))
or-more true b c = refl
or-more false true c = refl
or-more false false c = refl

or-none : (a : Bool) → a ≡ (a || false)
or-none true = refl
or-none false = refl

any-distinct : (t : Tile) (ts tiles : List Tile) → list_any (is_tile t) (fold with_tile tiles ts) ≡ (list_any (is_tile t) tiles || list_any (is_tile t) ts)
any-distinct t [] tiles = or-none (list_any (is_tile t) tiles)
any-distinct t (u ∷ ts) tiles =
    let rest = any-distinct t ts (with_tile tiles u) in
    elim (cases_Bool (list_any (is_tile u) tiles)) [
      | inl old ↦
          rest
          ∙ ap (λ (l : List Tile). list_any (is_tile t) l || list_any (is_tile t) ts) (with_tile-old tiles u old)
          ∙ or-same (list_any (is_tile t) tiles) (is_tile t u) (list_any (is_tile t) ts)
          (λ same. subst (λ (v : Tile). list_any (is_tile v) tiles ≡ true) (sym (tile-is t u same)) old)
      | inr new ↦
          rest
          ∙ ap (λ (l : List Tile). list_any (is_tile t) l || list_any (is_tile t) ts) (with_tile-new tiles u new)
          ∙ ap (λ (b : Bool). b || list_any (is_tile t) ts) (list_any-append (is_tile t) tiles (u ∷ []))
          ∙ or-more (list_any (is_tile t) tiles) (is_tile t u) (list_any (is_tile t) ts)
    ]

any-number : (g : Shape) (cell : ℕ) (others : List ℕ) →
    list_any (is_tile (tile_under g cell)) (map (tile_under g) others) ≡ list_any (λ other. other % (g.rows * g.columns) == cell % (g.rows * g.columns)) others
any-number g cell [] = refl
any-number g cell (other ∷ others) =
    ap (λ (b : Bool). b || list_any (is_tile (tile_under g cell)) (map (tile_under g) others)) (same-tile g cell other)
    ∙ ap (λ (b : Bool). (other % (g.rows * g.columns) == cell % (g.rows * g.columns)) || b) (any-number g cell others)

-- a cell more
tiles-next : (g : Shape) (at cell : ℕ) (cells : List ℕ) → at < length cells → cell ≡ get_or cells at 0 →
    distinct_tiles g (take (at + 1) cells) ≡ with_tile (distinct_tiles g (take at cells)) (tile_under g cell)
tiles-next g at cell cells within is =
    ap (distinct_tiles g) (take_more cells at 0 within ∙ ap (λ (n : ℕ). take at cells ++ n ∷ []) (sym is))
    ∙ ap (fold with_tile []) (map-push (take at cells))
    ∙ fold_push with_tile [] (map (tile_under g) (take at cells)) (tile_under g cell)
  where
    map-push : (xs : List ℕ) → map (tile_under g) (xs ++ cell ∷ []) ≡ map (tile_under g) xs ++ tile_under g cell ∷ []
    map-push [] = refl
    map-push (x ∷ xs) = ap (λ (l : List Tile). tile_under g x ∷ l) (map-push xs)

pub tiles-more : (g : Shape) (at cell : ℕ) (cells : List ℕ) (plane : ℕ) → at < length cells → cell ≡ get_or cells at 0 → plane ≡ g.rows * g.columns →
    list_any (λ other. other % plane == cell % plane) (take at cells) ≡ false →
    length (distinct_tiles g (take (at + 1) cells)) ≡ length (distinct_tiles g (take at cells)) + 1
tiles-more g at cell cells plane within is plane_is test =
    let none = subst (λ (p : ℕ). list_any (λ other. other % p == cell % p) (take at cells) ≡ false) plane_is test in
    let fresh = any-distinct (tile_under g cell) (map (tile_under g) (take at cells)) [] ∙ any-number g cell (take at cells) ∙ none in
    ap (λ (l : List Tile). length l) (tiles-next g at cell cells within is ∙ with_tile-new (distinct_tiles g (take at cells)) (tile_under g cell) fresh)
    ∙ length-append (distinct_tiles g (take at cells)) (tile_under g cell ∷ [])

pub tiles-same : (g : Shape) (at cell : ℕ) (cells : List ℕ) (plane : ℕ) → at < length cells → cell ≡ get_or cells at 0 → plane ≡ g.rows * g.columns →
    list_any (λ other. other % plane == cell % plane) (take at cells) ≡ true →
    length (distinct_tiles g (take (at + 1) cells)) ≡ length (distinct_tiles g (take at cells))
tiles-same g at cell cells plane within is plane_is test =
    let some = subst (λ (p : ℕ). list_any (λ other. other % p == cell % p) (take at cells) ≡ true) plane_is test in
    let old = any-distinct (tile_under g cell) (map (tile_under g) (take at cells)) [] ∙ any-number g cell (take at cells) ∙ some in
    ap (λ (l : List Tile). length l) (tiles-next g at cell cells within is ∙ with_tile-old (distinct_tiles g (take at cells)) (tile_under g cell) old)

-- how many tiles there are
pub plane-fits : (g : Shape) → (0 < g.rows * g.columns) × (g.rows * g.columns ≤ 8388608)
plane-fits g =
    let rows = some_rows g in
    let columns = some_columns g in
    let layers = some_layers g in
    let v = g.valid in
    let all : g.columns * g.rows * g.layers ≤ 8388608 = grind (arith, nat_tests) in
    let turned : g.rows * g.columns ≡ g.columns * g.rows = omega arith in
    let one = mul-le-mul_left (g.columns * g.rows) layers in
    let least = mul-le-mul_left g.rows columns in
    (omega (arith, rows, least), omega (arith, all, turned, one))

-- how far it is across the box of a routed net's pins, of which there are few
pub record IsSmall (d : DesignView) (number : ℕ) (net : Net) (w : Window) : Type 0 where
  pub columns : w.x0 ≤ w.x1
  pub rows : w.y0 ≤ w.y1
  pub last_column : w.x1 < 8388608
  pub last_row : w.y1 < 8388608
  pub few : length net.pins ≤ 1000
  pub pins_are : pins_at d number ≡ net.pins

pub routed-small : (d : DesignView) (number : ℕ) (net : Net) (w : Window) → IsDesign d → slice_get d.nets number ≡ Some net → IsTrue (is_routed d number) →
    w ≡ window_of d.frame.shape (pins_at d number) 0 → IsSmall d number net w
routed-small d number net w design there routed is =
    let g = d.frame.shape in
    let pins = pins-of d number net there in
    let fits = (has-window g g (pins_at d number) net 0 w refl pins (net-of d number net design there) is).fits in
    let plane = (plane-fits g).1 in
    let columns = mul-le-mul_left g.columns (some_rows g) in
    let rows = mul-le-mul_left g.rows (some_columns g) in
    let turned : g.rows * g.columns ≡ g.columns * g.rows = omega arith in
    let last_column = fits.last_column in
    let last_row = fits.last_row in
    record {
      columns = fits.columns;
      rows = fits.rows;
      last_column = omega (arith, last_column, columns, plane, turned);
      last_row = omega (arith, last_row, rows, plane);
      few = routed-few d number net there routed;
      pins_are = pins;
    }
