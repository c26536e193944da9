-- A product by a rounded factor gives the quotient.
use Rattle.std.proofs.Common.{◌≡◌, ℕ, ◌+◌, ◌-◌, ◌*◌, ◌/◌, ◌%◌, ◌<◌, ◌≤◌, inl, inr, sym, ap, ◌∙◌, arith}
use Rattle.std.proofs.lemmas.Bool.{cases_lt}
use Rattle.std.proofs.lemmas.Nat.{div-add-mod', div-mul-add, mul-le, mod_below}
use Rattle.std.proofs.Math.Nat.{add-mul, mul-add, mul_assoc, mul_comm, mul_right_comm, mul-le-mul_left, mul-le-mul_right}
use Rattle.gr_base.specs.declared.grid.Cell.{Cell}
use Rattle.gr_base.specs.Grid.{place_at}
use Rattle.gr_base.proofs.GridLemmas.{same_cell}
use Rattle.maze_route.specs.Divisors.{IsFactor}
use Rattle.maze_route.specs.declared.pane.Pane.{Pane}

-- not less than the quotient's share
at-least : (n by factor q r : ℕ) → n ≡ q * by + r → 70368744177664 ≤ factor * by → q * 70368744177664 ≤ n * factor
at-least n by factor q r parts least =
    let h1 : n * factor ≡ (q * by + r) * factor = ap (λ (m : ℕ). m * factor) parts in
    let h2 : (q * by + r) * factor ≡ q * by * factor + r * factor = add-mul (q * by) r factor in
    let h3 : q * by * factor ≡ q * (by * factor) = mul_assoc q by factor in
    let h4 : q * (by * factor) ≡ q * (factor * by) = ap (λ (m : ℕ). q * m) (mul_comm by factor) in
    let h5 : q * 70368744177664 ≤ q * (factor * by) = mul-le-mul_left q least in
    omega (arith, h1, h2, h3, h4, h5)

-- and less than the next one's
at-most-next : (n by factor q r : ℕ) → n ≡ q * by + r → r < by → by ≤ 8388608 → n < 8388608 → 70368744177664 ≤ factor * by →
    factor * by < 70368744177664 + by → n * factor < q * 70368744177664 + 70368744177664
at-most-next n by factor q r parts small few below least most =
    elim (cases_lt (n * factor) (q * 70368744177664 + 70368744177664)) [
      | inl less ↦ less
      | inr more ↦
          let e = factor * by - 70368744177664 in
          let over : factor * by ≡ 70368744177664 + e = omega arith in
          let e_few : e ≤ 8388607 = omega arith in
          let n_few : n ≤ 8388607 = omega arith in
          let g0 : (q * 70368744177664 + 70368744177664) * by ≤ n * factor * by = mul-le-mul_right by more in
          let g1 : n * factor * by ≡ n * (factor * by) = mul_assoc n factor by in
          let g2 : n * (factor * by) ≡ n * (70368744177664 + e) = ap (λ (m : ℕ). n * m) over in
          let g3 : n * (70368744177664 + e) ≡ n * 70368744177664 + n * e = mul-add n 70368744177664 e in
          let g4 : n * e ≤ 8388607 * 8388607 = mul-le n e 8388607 8388607 n_few e_few in
          let g5 : (q * 70368744177664 + 70368744177664) * by ≡ q * 70368744177664 * by + 70368744177664 * by = add-mul (q * 70368744177664) 70368744177664 by in
          let g6 : q * 70368744177664 * by ≡ q * by * 70368744177664 = mul_right_comm q 70368744177664 by in
          absurd (omega (arith, g0, g1, g2, g3, g4, g5, g6, parts))
    ]

pub quotient-exact : (n by factor : ℕ) → IsFactor by factor → n < 8388608 → n * factor / 70368744177664 ≡ n / by
quotient-exact n by factor is below =
    let q = n / by in
    let r = n % by in
    let parts : n ≡ q * by + r = sym (div-add-mod' n by) in
    let small : r < by = mod_below n by is.some in
    let low = at-least n by factor q r parts is.least in
    let high = at-most-next n by factor q r parts small is.few below is.least is.most in
    let b = n * factor - q * 70368744177664 in
    let whole : n * factor ≡ q * 70368744177664 + b = omega (arith, low) in
    ap (λ (m : ℕ). m / 70368744177664) whole ∙ div-mul-add q 70368744177664 b (omega (arith, low, high))

pub factor-of : (by factor : ℕ) → 0 < by → by ≤ 8388608 → factor ≡ (70368744177664 + by - 1) / by → IsFactor by factor
factor-of by factor some few is =
    let total = 70368744177664 + by - 1 in
    let parts : total / by * by + total % by ≡ total = div-add-mod' total by in
    let small : total % by < by = mod_below total by some in
    let same : factor * by ≡ total / by * by = ap (λ (m : ℕ). m * by) is in
    record { some = some; few = few; least = omega (arith, parts, small, same); most = omega (arith, parts, small, same) }

-- a number's parts by two divisors are its place
pub place-by : (p : Pane) (local row layer x y : ℕ) → row ≡ local / p.columns.by → layer ≡ row / p.rows.by → x ≡ local - row * p.columns.by → y ≡ row - layer * p.rows.by →
    ◌≡◌ {A = Cell} (record { x = x; y = y; layer = layer }) (place_at p.shape local)
place-by p local row layer x y row_is layer_is x_is y_is =
    let by_column = ap (λ (d : ℕ). local / d) p.by_columns in
    let row_at : row ≡ local / p.shape.columns = row_is ∙ by_column in
    let first = div-add-mod' local p.columns.by in
    let first_row = ap (λ (m : ℕ). m * p.columns.by) row_is in
    let second = div-add-mod' row p.rows.by in
    let second_layer = ap (λ (m : ℕ). m * p.rows.by) layer_is in
    let left : x ≡ local % p.columns.by = omega (arith, x_is, first, first_row) in
    let low : y ≡ row % p.rows.by = omega (arith, y_is, second, second_layer) in
    same_cell (record { x = x; y = y; layer = layer }) (place_at p.shape local)
    (left ∙ ap (λ (d : ℕ). local % d) p.by_columns)
    (low ∙ ap (λ (d : ℕ). row % d) p.by_rows ∙ ap (λ (m : ℕ). m % p.shape.rows) row_at)
    (layer_is ∙ ap (λ (d : ℕ). row / d) p.by_rows ∙ ap (λ (m : ℕ). m / p.shape.rows) row_at)
