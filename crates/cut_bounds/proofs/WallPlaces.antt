-- The places of a wall's wires are those of the wires that lead out of its tiles.
use Rattle.std.proofs.Common.{◌≡◌, ℕ, ◌+◌, ◌-◌, ◌*◌, ◌/◌, ◌%◌, ◌<◌, ◌≤◌, inl, inr, Bool, true, false, ◌&&◌, ◌||◌, ◌==◌, nat_le, nat_lt, if◌then◌else◌, List, [], ◌++◌, refl, sym, ap, ◌∙◌, arith}
use Rattle.std.specs.List.{list_any}
use Rattle.std.proofs.lemmas.Bool.{cases_lt}
use Rattle.std.proofs.lemmas.Bool.Decides.{nat_tests}
use Rattle.std.proofs.lemmas.List.Folds.{list_any-append}
use Rattle.std.proofs.lemmas.Nat.{mul-add-lt}
use Rattle.gr_base.proofs.GridLemmas.{some_columns}
use Rattle.gr_base.specs.declared.grid.Shape.{Shape}
use Rattle.gr_base.specs.declared.grid.Way.TheVariants.{East, North}
use Rattle.wall_laws.specs.Walls.{differ}
use Rattle.cut_bounds.specs.Crossings.{has_tile, leads_out}
use Rattle.cut_bounds.specs.Cuts.{tile_at}
use Rattle.cut_bounds.specs.Measured.{tiles_in}
use Rattle.cut_bounds.specs.Places.{is_walled, places_of, run_of, left_run, right_run, lower_run, upper_run, IsBoxOf, IsWallOf}
use Rattle.cut_bounds.specs.TileWires.{tiles_of}
use Rattle.cut_bounds.specs.declared.axis.Axis.TheVariants.{Columns, Rows}
use Rattle.cut_bounds.specs.declared.axis.Tile.{Tile}
use Rattle.cut_bounds.specs.declared.wall.TileBox.{TileBox}
use Rattle.cut_bounds.specs.declared.wall.Wall.{Wall}
use Rattle.cut_bounds.specs.declared.wall.Wall.TheVariants.{Column, Row, Box}
use Rattle.cut_bounds.proofs.CutLemmas.{line-inside}
use Rattle.cut_bounds.proofs.MeaningLemmas.{column-out, none-out, row-out}
use Rattle.cut_bounds.proofs.PlaceLemmas.{any-if, column-run, range-left, row-run, run-above, run-below}

-- ---- places by way

east-at : (g : Shape) (wall : Wall) (place : ℕ) → place < tiles_of g → is_walled g wall place ≡ leads_out g (has_tile (tiles_in wall)) East (tile_at g.columns place)
east-at g wall place low = let on : nat_lt place (tiles_of g) ≡ true = grind (arith, nat_tests, low) in rw on refl

north-at : (g : Shape) (wall : Wall) (place : ℕ) → tiles_of g ≤ place →
    is_walled g wall place ≡ leads_out g (has_tile (tiles_in wall)) North (tile_at g.columns (place - tiles_of g))
north-at g wall place past = let off : nat_lt place (tiles_of g) ≡ false = grind (arith, nat_tests, past) in rw off refl

column-low : (g : Shape) (x y0 count : ℕ) → x < g.columns → y0 + count ≤ g.rows → (k : ℕ) → k < count → (y0 * g.columns + x) + k * g.columns < tiles_of g
column-low g x y0 count inside up k lower =
    let e : (y0 + k) * g.columns + x ≡ (y0 * g.columns + x) + k * g.columns = omega arith in
    let low = mul-add-lt (y0 + k) g.columns x g.rows (omega (arith, lower, up)) inside in
    omega (arith, e, low)

and-yes : (b c : Bool) → c ≡ true → (b && c) ≡ b
and-yes true c e = e
and-yes false c e = refl

and-off : (b : Bool) → (b && false) ≡ false
and-off true = refl
and-off false = refl

-- ---- straight cuts

column-places : (g : Shape) (x place : ℕ) → x + 1 < g.columns → place < 2 * tiles_of g →
    list_any (λ p. p == place) (places_of g (Column x)) ≡ is_walled g (Column x) place
column-places g x place inside small = elim (cases_lt place (tiles_of g)) [
  | inl low ↦
      let t : Tile = tile_at g.columns place in
      let row : place / g.columns < g.rows = line-inside g Rows place low in
      let none : x ≡ 0 * g.columns + x = omega arith in
      let yes' : (nat_le 0 (place / g.columns) && nat_lt (place / g.columns) (0 + g.rows)) ≡ true = grind (arith, nat_tests, row) in
      ap (λ (n : ℕ). list_any (λ p. p == place) (run_of n g.columns g.rows)) none
      ∙ column-run g.columns x 0 g.rows place (omega (arith, inside)) ∙ and-yes (place % g.columns == x) _ yes'
      ∙ sym (column-out g x t inside) ∙ sym (east-at g (Column x) place low)
  | inr past ↦
      let none : x ≡ 0 * g.columns + x = omega arith in
      ap (λ (n : ℕ). list_any (λ p. p == place) (run_of n g.columns g.rows)) none
      ∙ run-below (0 * g.columns + x) g.columns g.rows place (λ k lower. let b = column-low g x 0 g.rows (omega (arith, inside)) (omega arith) k lower in omega (arith, b, past))
      ∙ sym (north-at g (Column x) place past ∙ none-out (nat_lt ((tile_at g.columns (place - tiles_of g)).y + 1) g.rows) (nat_le (tile_at g.columns (place - tiles_of g)).x x))
]

row-places : (g : Shape) (y place : ℕ) → y + 1 < g.rows → place < 2 * tiles_of g →
    list_any (λ p. p == place) (places_of g (Row y)) ≡ is_walled g (Row y) place
row-places g y place inside small = elim (cases_lt place (tiles_of g)) [
  | inl low ↦
      run-above (tiles_of g + (y * g.columns + 0)) 1 g.columns place (omega (arith, low))
      ∙ sym (east-at g (Row y) place low ∙ none-out (nat_lt ((tile_at g.columns place).x + 1) g.columns) (nat_le (tile_at g.columns place).y y))
  | inr past ↦
      let at : ℕ = place - tiles_of g in
      let column : at % g.columns < g.columns = line-inside g Columns at (omega (arith, past, small)) in
      let yes' : (nat_le 0 (at % g.columns) && nat_lt (at % g.columns) (0 + g.columns)) ≡ true = grind (arith, nat_tests, column) in
      row-run (tiles_of g) g.columns y 0 g.columns place (omega arith) (some_columns g) past ∙ and-yes (at / g.columns == y) _ yes'
      ∙ sym (row-out g y (tile_at g.columns at) inside) ∙ sym (north-at g (Row y) place past)
]

-- ---- boxes

four : (p : ℕ → Bool) (a b c d : List ℕ) → list_any p (((a ++ b) ++ c) ++ d) ≡ (((list_any p a || list_any p b) || list_any p c) || list_any p d)
four p a b c d =
    list_any-append p ((a ++ b) ++ c) d ∙ ap (λ (x : Bool). x || list_any p d) (list_any-append p (a ++ b) c
    ∙ ap (λ (x : Bool). x || list_any p c) (list_any-append p a b))

-- a range by its count is one by its last
last-of : (low high x : ℕ) → low ≤ high → (nat_le low x && nat_lt x (low + (high + 1 - low))) ≡ (nat_le low x && nat_le x high)
last-of low high x up =
    let e : low + (high + 1 - low) ≡ high + 1 = omega (arith, up) in
    ap (λ (n : ℕ). nat_le low x && nat_lt x n) e ∙ ap (λ (b : Bool). nat_le low x && b) (grind (arith, nat_tests))

-- east: the tests of the rows are alike at both ends
east-tests : (l a r b k p q c d : Bool) → (k && differ p q) ≡ ((l && a) || (r && b)) →
    ((((l && (a && (c && d))) || (r && (b && (c && d)))) || false) || false) ≡ (k && differ ((p && c) && d) ((q && c) && d))
east-tests l a r b k p q true true is =
    or-none (or-none (ap (λ (x : Bool). (l && x) || (r && (b && true))) (and-yes a true refl) ∙ ap (λ (x : Bool). (l && a) || (r && x)) (and-yes b true refl)))
    ∙ sym is ∙ ap (λ (x : Bool). k && differ x q) (sym (twice p)) ∙ ap (λ (x : Bool). k && differ ((p && true) && true) x) (sym (twice q))
  where
    or-none : {x y : Bool} → x ≡ y → (x || false) ≡ y
    or-none {x = true} e = e
    or-none {x = false} e = e

    twice : (x : Bool) → ((x && true) && true) ≡ x
    twice true = refl
    twice false = refl
east-tests l a r b k p q true false is = nothing l a r b k p q where
  nothing : (l a r b k p q : Bool) → ((((l && (a && false)) || (r && (b && false))) || false) || false) ≡ (k && differ ((p && true) && false) ((q && true) && false))
  nothing l a r b k p q = rw (and-off a) (rw (and-off b) (rw (and-off l) (rw (and-off r) (rw (and-off (p && true)) (rw (and-off (q && true)) (sym (and-off k)))))))
east-tests l a r b k p q false d is = nothing l a r b k p q d where
  nothing : (l a r b k p q d : Bool) → ((((l && (a && false)) || (r && (b && false))) || false) || false) ≡ (k && differ ((p && false) && d) ((q && false) && d))
  nothing l a r b k p q d = rw (and-off a) (rw (and-off b) (rw (and-off l) (rw (and-off r) (rw (and-off p) (rw (and-off q) (sym (and-off k)))))))

-- north: those of the columns are
north-tests : (l a r b k p p' q q' c d : Bool) → (k && differ (p && p') (q && q')) ≡ ((l && a) || (r && b)) →
    (((false || false) || (l && (a && (c && d)))) || (r && (b && (c && d)))) ≡ (k && differ (((c && d) && p) && p') (((c && d) && q) && q'))
north-tests l a r b k p p' q q' true true is =
    ap (λ (x : Bool). (l && x) || (r && (b && true))) (and-yes a true refl) ∙ ap (λ (x : Bool). (l && a) || (r && x)) (and-yes b true refl) ∙ sym is
north-tests l a r b k p p' q q' true false is = nothing l a r b k where
  nothing : (l a r b k : Bool) → (((false || false) || (l && (a && false))) || (r && (b && false))) ≡ (k && false)
  nothing l a r b k = rw (and-off a) (rw (and-off b) (rw (and-off l) (rw (and-off r) (sym (and-off k)))))
north-tests l a r b k p p' q q' false d is = nothing l a r b k where
  nothing : (l a r b k : Bool) → (((false || false) || (l && (a && false))) || (r && (b && false))) ≡ (k && false)
  nothing l a r b k = rw (and-off a) (rw (and-off b) (rw (and-off l) (rw (and-off r) (sym (and-off k)))))

-- the runs of a box by place
side-has : (g : Shape) (so : Bool) (x y0 y1 place : ℕ) → x < g.columns → y0 ≤ y1 →
    list_any (λ p. p == place) (if so then run_of (y0 * g.columns + x) g.columns (y1 + 1 - y0) else [])
    ≡ (so && ((place % g.columns == x) && (nat_le y0 (place / g.columns) && nat_le (place / g.columns) y1)))
side-has g so x y0 y1 place inside up =
    any-if so (λ p. p == place) (run_of (y0 * g.columns + x) g.columns (y1 + 1 - y0))
    ∙ ap (λ (b : Bool). so && b) (column-run g.columns x y0 (y1 + 1 - y0) place inside
    ∙ ap (λ (b : Bool). (place % g.columns == x) && b) (last-of y0 y1 (place / g.columns) up))

side-lacks : (g : Shape) (so : Bool) (x y0 y1 place : ℕ) → x < g.columns → y0 ≤ y1 → y1 < g.rows → tiles_of g ≤ place →
    list_any (λ p. p == place) (if so then run_of (y0 * g.columns + x) g.columns (y1 + 1 - y0) else []) ≡ false
side-lacks g so x y0 y1 place inside up top past =
    any-if so (λ p. p == place) (run_of (y0 * g.columns + x) g.columns (y1 + 1 - y0))
    ∙ ap (λ (b : Bool). so && b) (run-below (y0 * g.columns + x) g.columns (y1 + 1 - y0) place
    (λ k lower. let b = column-low g x y0 (y1 + 1 - y0) inside (omega (arith, up, top)) k lower in omega (arith, b, past)))
    ∙ and-off so

end-has : (g : Shape) (so : Bool) (y x0 x1 place : ℕ) → x0 ≤ x1 → x1 < g.columns → tiles_of g ≤ place →
    list_any (λ p. p == place) (if so then run_of (tiles_of g + (y * g.columns + x0)) 1 (x1 + 1 - x0) else [])
    ≡ (so && (((place - tiles_of g) / g.columns == y) && (nat_le x0 ((place - tiles_of g) % g.columns) && nat_le ((place - tiles_of g) % g.columns) x1)))
end-has g so y x0 x1 place up inside past =
    any-if so (λ p. p == place) (run_of (tiles_of g + (y * g.columns + x0)) 1 (x1 + 1 - x0))
    ∙ ap (λ (b : Bool). so && b) (row-run (tiles_of g) g.columns y x0 (x1 + 1 - x0) place (omega (arith, up, inside)) (some_columns g) past
    ∙ ap (λ (b : Bool). ((place - tiles_of g) / g.columns == y) && b) (last-of x0 x1 ((place - tiles_of g) % g.columns) up))

end-lacks : (g : Shape) (so : Bool) (y x0 x1 place : ℕ) → place < tiles_of g →
    list_any (λ p. p == place) (if so then run_of (tiles_of g + (y * g.columns + x0)) 1 (x1 + 1 - x0) else []) ≡ false
end-lacks g so y x0 x1 place low =
    any-if so (λ p. p == place) (run_of (tiles_of g + (y * g.columns + x0)) 1 (x1 + 1 - x0))
    ∙ ap (λ (b : Bool). so && b) (run-above (tiles_of g + (y * g.columns + x0)) 1 (x1 + 1 - x0) place (omega (arith, low))) ∙ and-off so

join : (a b c d a' b' c' d' : Bool) → a ≡ a' → b ≡ b' → c ≡ c' → d ≡ d' → (((a || b) || c) || d) ≡ (((a' || b') || c') || d')
join a b c d a' b' c' d' e f h i =
    ap (λ (x : Bool). ((x || b) || c) || d) e ∙ ap (λ (x : Bool). ((a' || x) || c) || d) f
    ∙ ap (λ (x : Bool). ((a' || b') || x) || d) h ∙ ap (λ (x : Bool). ((a' || b') || c') || x) i

box-places : (g : Shape) (b : TileBox) (place : ℕ) → IsBoxOf g b → place < 2 * tiles_of g →
    list_any (λ p. p == place) (places_of g (Box b)) ≡ is_walled g (Box b) place
box-places g b place is small = elim (cases_lt place (tiles_of g)) [
  | inl low ↦
      let x : ℕ = place % g.columns in
      let y : ℕ = place / g.columns in
      four (λ p. p == place) (left_run g b) (right_run g b) (lower_run g b) (upper_run g b)
      ∙ join _ _ _ _ _ _ _ _
      (side-has g (nat_lt 0 b.x0) (b.x0 - 1) b.y0 b.y1 place (omega (arith, is.columns, is.right)) is.rows)
      (side-has g (nat_lt (b.x1 + 1) g.columns) b.x1 b.y0 b.y1 place is.right is.rows)
      (end-lacks g (nat_lt 0 b.y0) (b.y0 - 1) b.x0 b.x1 place low)
      (end-lacks g (nat_lt (b.y1 + 1) g.rows) b.y1 b.x0 b.x1 place low)
      ∙ east-tests (nat_lt 0 b.x0) (x == b.x0 - 1) (nat_lt (b.x1 + 1) g.columns) (x == b.x1) (nat_lt (x + 1) g.columns)
      (nat_le b.x0 x && nat_le x b.x1) (nat_le b.x0 (x + 1) && nat_le (x + 1) b.x1) (nat_le b.y0 y) (nat_le y b.y1)
      (range-left b.x0 b.x1 x g.columns is.columns is.right)
      ∙ sym (east-at g (Box b) place low)
  | inr past ↦
      let at : ℕ = place - tiles_of g in
      let x : ℕ = at % g.columns in
      let y : ℕ = at / g.columns in
      four (λ p. p == place) (left_run g b) (right_run g b) (lower_run g b) (upper_run g b)
      ∙ join _ _ _ _ _ _ _ _
      (side-lacks g (nat_lt 0 b.x0) (b.x0 - 1) b.y0 b.y1 place (omega (arith, is.columns, is.right)) is.rows is.top past)
      (side-lacks g (nat_lt (b.x1 + 1) g.columns) b.x1 b.y0 b.y1 place is.right is.rows is.top past)
      (end-has g (nat_lt 0 b.y0) (b.y0 - 1) b.x0 b.x1 place is.columns is.right past)
      (end-has g (nat_lt (b.y1 + 1) g.rows) b.y1 b.x0 b.x1 place is.columns is.right past)
      ∙ north-tests (nat_lt 0 b.y0) (y == b.y0 - 1) (nat_lt (b.y1 + 1) g.rows) (y == b.y1) (nat_lt (y + 1) g.rows)
      (nat_le b.y0 y) (nat_le y b.y1) (nat_le b.y0 (y + 1)) (nat_le (y + 1) b.y1) (nat_le b.x0 x) (nat_le x b.x1)
      (range-left b.y0 b.y1 y g.rows is.rows is.top)
      ∙ sym (north-at g (Box b) place past)
]

pub walled-places : (g : Shape) (wall : Wall) (place : ℕ) → IsWallOf g wall → place < 2 * tiles_of g →
    list_any (λ p. p == place) (places_of g wall) ≡ is_walled g wall place
walled-places g (Column x) place is small = column-places g x place is small
walled-places g (Row y) place is small = row-places g y place is small
walled-places g (Box b) place is small = box-places g b place is small
