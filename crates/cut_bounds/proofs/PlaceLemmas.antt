-- Runs of places: that they are small, and which places they have.
use Rattle.std.proofs.Common.{◌≡◌, ℕ, ◌+◌, ◌-◌, ◌*◌, ◌/◌, ◌%◌, ◌<◌, ◌≤◌, ◌^◌, ◌⊎◌, inl, inr, Bool, true, false, ◌&&◌, ◌||◌, ◌==◌, nat_le, nat_lt, if◌then◌else◌, List, [], get_or, refl, sym, ap, ◌∙◌, arith}
use Rattle.std.specs.List.{list_any}
use Rattle.std.proofs.Math.Nat.{le-mul_of_pos_right, mul_comm}
use Rattle.std.proofs.lemmas.Bool.{and_parts, cases_Bool, cases_lt}
use Rattle.std.proofs.lemmas.Bool.Decides.{nat_tests}
use Rattle.std.proofs.lemmas.List.FromFn.{get_or-map-range_with_len, length-map-range_with_len}
use Rattle.std.proofs.lemmas.List.Folds.{Any-from_list_any, list_any_at}
use Rattle.std.proofs.lemmas.Nat.{div-add-mod', div-mul-add, mod-mul-add, mul-le}
use Rattle.gr_base.proofs.General.{same-truth}
use Rattle.gr_base.proofs.GridLemmas.{some_rows}
use Rattle.gr_base.specs.declared.grid.Shape.{Shape}
use Rattle.wall_laws.specs.Walls.{differ}
use Rattle.cut_bounds.specs.Places.{run_of}
use Rattle.cut_bounds.specs.TileWires.{tiles_of}
use Rattle.cut_bounds.proofs.CutLemmas.{few-tiles}

-- the places of a run up the rows, and of one along a row, are small
pub column-small : (g : Shape) (number count y0 columns : ℕ) → columns ≡ g.columns → number < tiles_of g → y0 + count ≤ g.rows → number + count * columns ≤ 2 ^ 25
column-small g number count y0 columns wide inside up =
    let whole = mul-le count columns g.rows g.columns (omega (arith, up)) (omega (arith, wide)) in
    let e = mul_comm g.rows g.columns in
    omega (arith, inside, whole, e, few-tiles g)

pub row-small : (g : Shape) (tiles number count : ℕ) → tiles ≡ tiles_of g → number < tiles_of g → count ≤ g.columns → (tiles + number) + count * 1 ≤ 2 ^ 25
row-small g tiles number count all inside wide =
    let more = le-mul_of_pos_right g.columns (some_rows g) in
    omega (arith, all, inside, wide, more, few-tiles g)

-- ---- which places a run has

-- a place of a run, and no other
run-has : (first step count place : ℕ) → list_any (λ p. p == place) (run_of first step count) ≡ true → (k : ℕ) × (k < count) × (first + k * step ≡ place)
run-has first step count place has =
    let some = Any-from_list_any (λ p. p == place) (run_of first step count) has in
    let lower : some.0 < count = omega (arith, some.2, length-map-range_with_len (λ (k : ℕ). first + k * step) 0 count) in
    let at : get_or (run_of first step count) some.0 some.1 ≡ first + some.0 * step = get_or-map-range_with_len (λ (k : ℕ). first + k * step) 0 count some.0 some.0 some.1 lower (omega arith) in
    let same : some.1 ≡ place = let e = some.4 in grind (arith, nat_tests, e) in
    (some.0, lower, sym at ∙ some.3 ∙ same)

run-at : (first step count place k : ℕ) → k < count → first + k * step ≡ place → list_any (λ p. p == place) (run_of first step count) ≡ true
run-at first step count place k lower is =
    let at : get_or (run_of first step count) k 0 ≡ first + k * step = get_or-map-range_with_len (λ (j : ℕ). first + j * step) 0 count k k 0 lower (omega arith) in
    list_any_at (λ p. p == place) (run_of first step count) k 0 (omega (arith, lower, length-map-range_with_len (λ (j : ℕ). first + j * step) 0 count))
    (let e : get_or (run_of first step count) k 0 ≡ place = at ∙ is in grind (arith, nat_tests, e))

-- the tiles of a column from a row on
pub column-run : (columns x y0 count place : ℕ) → x < columns →
    list_any (λ p. p == place) (run_of (y0 * columns + x) columns count) ≡ ((place % columns == x) && (nat_le y0 (place / columns) && nat_lt (place / columns) (y0 + count)))
column-run columns x y0 count place inside =
    same-truth (list_any (λ p. p == place) (run_of (y0 * columns + x) columns count)) ((place % columns == x) && (nat_le y0 (place / columns) && nat_lt (place / columns) (y0 + count)))
    (λ has.
    let found = run-has (y0 * columns + x) columns count place has in
    let k : ℕ = found.0 in
    let product : (y0 + k) * columns ≡ y0 * columns + k * columns = omega arith in
    let is : (y0 + k) * columns + x ≡ place = let e = found.2 in omega (arith, e, product) in
    let column : place % columns ≡ x = ap (λ (n : ℕ). n % columns) (sym is) ∙ mod-mul-add (y0 + k) columns x inside in
    let row : place / columns ≡ y0 + k = ap (λ (n : ℕ). n / columns) (sym is) ∙ div-mul-add (y0 + k) columns x inside in
    let low = found.1 in
    grind (arith, nat_tests, column, row, low))
    (λ test.
    let parts = and_parts (place % columns == x) (nat_le y0 (place / columns) && nat_lt (place / columns) (y0 + count)) test in
    let ends = and_parts (nat_le y0 (place / columns)) (nat_lt (place / columns) (y0 + count)) parts.1 in
    let column : place % columns ≡ x = let p = parts.0 in grind (arith, nat_tests, p) in
    let low : y0 ≤ place / columns = let p = ends.0 in grind (arith, nat_tests, p) in
    let high : place / columns < y0 + count = let p = ends.1 in grind (arith, nat_tests, p) in
    let k : ℕ = place / columns - y0 in
    let product : place / columns * columns ≡ y0 * columns + (place / columns - y0) * columns =
    let e : place / columns ≡ y0 + (place / columns - y0) = omega (arith, low) in ap (λ (n : ℕ). n * columns) e ∙ spread y0 (place / columns - y0) columns in
    run-at (y0 * columns + x) columns count place k (omega (arith, low, high)) (omega (arith, div-add-mod' place columns, column, product)))
  where
    spread : (a b n : ℕ) → (a + b) * n ≡ a * n + b * n
    spread a b n = omega arith

-- the tiles of a row from a column on, by places that begin behind so many
pub row-run : (tiles columns y x0 count place : ℕ) → x0 + count ≤ columns → 0 < columns → tiles ≤ place →
    list_any (λ p. p == place) (run_of (tiles + (y * columns + x0)) 1 count)
    ≡ (((place - tiles) / columns == y) && (nat_le x0 ((place - tiles) % columns) && nat_lt ((place - tiles) % columns) (x0 + count)))
row-run tiles columns y x0 count place fits some past =
    same-truth (list_any (λ p. p == place) (run_of (tiles + (y * columns + x0)) 1 count))
    (((place - tiles) / columns == y) && (nat_le x0 ((place - tiles) % columns) && nat_lt ((place - tiles) % columns) (x0 + count)))
    (λ has.
    let found = run-has (tiles + (y * columns + x0)) 1 count place has in
    let k : ℕ = found.0 in
    let low = found.1 in
    let is : y * columns + (x0 + k) ≡ place - tiles = let e = found.2 in omega (arith, e) in
    let inside : x0 + k < columns = omega (arith, low, fits) in
    let column : (place - tiles) % columns ≡ x0 + k = ap (λ (n : ℕ). n % columns) (sym is) ∙ mod-mul-add y columns (x0 + k) inside in
    let row : (place - tiles) / columns ≡ y = ap (λ (n : ℕ). n / columns) (sym is) ∙ div-mul-add y columns (x0 + k) inside in
    grind (arith, nat_tests, column, row, low))
    (λ test.
    let parts = and_parts ((place - tiles) / columns == y) (nat_le x0 ((place - tiles) % columns) && nat_lt ((place - tiles) % columns) (x0 + count)) test in
    let ends = and_parts (nat_le x0 ((place - tiles) % columns)) (nat_lt ((place - tiles) % columns) (x0 + count)) parts.1 in
    let row : (place - tiles) / columns ≡ y = let p = parts.0 in grind (arith, nat_tests, p) in
    let low : x0 ≤ (place - tiles) % columns = let p = ends.0 in grind (arith, nat_tests, p) in
    let high : (place - tiles) % columns < x0 + count = let p = ends.1 in grind (arith, nat_tests, p) in
    let product = ap (λ (n : ℕ). n * columns) row in
    run-at (tiles + (y * columns + x0)) 1 count place ((place - tiles) % columns - x0) (omega (arith, low, high))
    (omega (arith, div-add-mod' (place - tiles) columns, low, past, product)))

-- a run that ends before a place doesn't have it, and one that begins behind it neither
pub run-below : (first step count place : ℕ) → ((k : ℕ) → k < count → first + k * step < place) → list_any (λ p. p == place) (run_of first step count) ≡ false
run-below first step count place below = elim (cases_Bool (list_any (λ p. p == place) (run_of first step count))) [
  | inl on ↦ let found = run-has first step count place on in absurd (let b = below found.0 found.1 in let e = found.2 in omega (arith, b, e))
  | inr off ↦ off
]

pub run-above : (first step count place : ℕ) → place < first → list_any (λ p. p == place) (run_of first step count) ≡ false
run-above first step count place above = elim (cases_Bool (list_any (λ p. p == place) (run_of first step count))) [
  | inl on ↦ let found = run-has first step count place on in absurd (let e = found.2 in omega (arith, above, e))
  | inr off ↦ off
]

-- ---- the places of a wall's wires

pub any-if : (so : Bool) (p : ℕ → Bool) (xs : List ℕ) → list_any p (if so then xs else []) ≡ (so && list_any p xs)
any-if true p xs = refl
any-if false p xs = refl

-- along one axis: where a range is left or entered
pub range-left : (low high x count : ℕ) → low ≤ high → high < count →
    (nat_lt (x + 1) count && differ (nat_le low x && nat_le x high) (nat_le low (x + 1) && nat_le (x + 1) high))
    ≡ ((nat_lt 0 low && (x == low - 1)) || (nat_lt (high + 1) count && (x == high)))
range-left low high x count up inside = elim (cases_lt (x + 1) low) [
  | inl before ↦
      let a : nat_le low x ≡ false = grind (arith, nat_tests, before) in
      let b : nat_le low (x + 1) ≡ false = grind (arith, nat_tests, before) in
      let d : (x == low - 1) ≡ false = grind (arith, nat_tests, before) in
      let e : (x == high) ≡ false = grind (arith, nat_tests, before, up) in
      rw a (rw b (rw d (rw e (none (nat_lt (x + 1) count) (nat_lt 0 low) (nat_lt (high + 1) count)))))
  | inr not-before ↦ elim (cases_lt x low) [
    | inl at-low ↦
        let a : nat_le low x ≡ false = grind (arith, nat_tests, at-low) in
        let b : nat_le low (x + 1) ≡ true = grind (arith, nat_tests, not-before) in
        let c : nat_le (x + 1) high ≡ true = grind (arith, nat_tests, at-low, up) in
        let d : (x == low - 1) ≡ true = grind (arith, nat_tests, at-low, not-before) in
        let f : nat_lt 0 low ≡ true = grind (arith, nat_tests, at-low) in
        let k : nat_lt (x + 1) count ≡ true = grind (arith, nat_tests, at-low, up, inside) in
        rw a (rw b (rw c (rw d (rw f (rw k refl)))))
    | inr from-low ↦
        let a : nat_le low x ≡ true = grind (arith, nat_tests, from-low) in
        let b : nat_le low (x + 1) ≡ true = grind (arith, nat_tests, from-low) in
        let d : (nat_lt 0 low && (x == low - 1)) ≡ false = off-low from-low (cases_lt 0 low) in
        rw a (rw b (rw d (rest (cases_lt x high))))
  ]
] where
  none : (p q r : Bool) → (p && false) ≡ ((q && false) || (r && false))
  none true true true = refl
  none true true false = refl
  none true false true = refl
  none true false false = refl
  none false true true = refl
  none false true false = refl
  none false false true = refl
  none false false false = refl

  off-low : low ≤ x → (0 < low) ⊎ (low ≤ 0) → (nat_lt 0 low && (x == low - 1)) ≡ false
  off-low from (inl some) =
      let d : (x == low - 1) ≡ false = grind (arith, nat_tests, from, some) in
      let f : nat_lt 0 low ≡ true = grind (arith, nat_tests, some) in
      rw d (rw f refl)
  off-low from (inr zero') = let f : nat_lt 0 low ≡ false = grind (arith, nat_tests, zero') in rw f refl

  same-and : (p : Bool) → (p && true) ≡ (p && true)
  same-and p = refl

  rest : (x < high) ⊎ (high ≤ x) →
      (nat_lt (x + 1) count && differ (nat_le x high) (nat_le (x + 1) high)) ≡ (nat_lt (high + 1) count && (x == high))
  rest (inl under) =
      let a : nat_le x high ≡ true = grind (arith, nat_tests, under) in
      let b : nat_le (x + 1) high ≡ true = grind (arith, nat_tests, under) in
      let e : (x == high) ≡ false = grind (arith, nat_tests, under) in
      rw a (rw b (rw e (both-off (nat_lt (x + 1) count) (nat_lt (high + 1) count))))
    where
      both-off : (p q : Bool) → (p && false) ≡ (q && false)
      both-off true true = refl
      both-off true false = refl
      both-off false true = refl
      both-off false false = refl
  rest (inr over) = elim (cases_lt high x) [
    | inl past ↦
        let a : nat_le x high ≡ false = grind (arith, nat_tests, past) in
        let b : nat_le (x + 1) high ≡ false = grind (arith, nat_tests, past) in
        let e : (x == high) ≡ false = grind (arith, nat_tests, past) in
        rw a (rw b (rw e (pair-off (nat_lt (x + 1) count) (nat_lt (high + 1) count))))
    | inr not-past ↦
        let is : x ≡ high = omega (arith, over, not-past) in
        let a : nat_le x high ≡ true = grind (arith, nat_tests, not-past) in
        let b : nat_le (x + 1) high ≡ false = grind (arith, nat_tests, over) in
        let e : (x == high) ≡ true = grind (arith, nat_tests, is) in
        let k : nat_lt (x + 1) count ≡ nat_lt (high + 1) count = ap (λ (n : ℕ). nat_lt (n + 1) count) is in
        rw a (rw b (rw e (rw k refl)))
  ] where
    pair-off : (p q : Bool) → (p && false) ≡ (q && false)
    pair-off true true = refl
    pair-off true false = refl
    pair-off false true = refl
    pair-off false false = refl
