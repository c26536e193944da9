-- Cells of a window and their numbers there.
use Rattle.std.proofs.Common.{◌≡◌, ℕ, ◌+◌, ◌*◌, ◌<◌, ◌≤◌, ◌⊎◌, inl, inr, Bool, ◌&&◌, nat_lt, IsTrue, refl, sym, ap, subst, ◌∙◌, arith}
use Rattle.std.proofs.lemmas.Nat.{mul-add-lt}
use Rattle.std.proofs.lemmas.Bool.{cases_lt}
use Rattle.std.proofs.lemmas.Bool.Decides.{nat_tests}
use Rattle.gr_base.specs.declared.grid.Cell.{Cell}
use Rattle.gr_base.specs.declared.grid.Shape.{Shape}
use Rattle.gr_base.specs.Grid.{cells_of, number_of, place_at, IsInside}
use Rattle.gr_base.proofs.GridLemmas.{number-place, place-inside, same_cell, place-number, number-below}
use Rattle.maze_route.specs.Panes.{out_of, into}
use Rattle.maze_route.specs.Steps.{size_of, cell_in, local_of}
use Rattle.maze_route.specs.Windows.{is_within, in_window}
use Rattle.maze_route.specs.declared.pane.Pane.{Pane}
use Rattle.maze_route.specs.declared.window.Window.{Window}

-- a place of the window lies in the grid
out-inside : (p : Pane) (q : Cell) → IsInside p.shape q → IsInside p.grid (out_of p.window q)
out-inside p q inside =
    let fits = p.fits in
    record {
      column = omega (arith, fits.columns, fits.window.last_column, inside.column);
      row = omega (arith, fits.rows, fits.window.last_row, inside.row);
      layer = omega (arith, fits.layers, inside.layer);
    }

pub place-cell : (p : Pane) (n : ℕ) → n < size_of p → place_at p.grid (cell_in p n) ≡ out_of p.window (place_at p.shape n)
place-cell p n below =
    place-number p.grid (out_of p.window (place_at p.shape n)) (out-inside p (place_at p.shape n) (place-inside p.shape n below))

pub cell-below : (p : Pane) (n : ℕ) → n < size_of p → cell_in p n < cells_of p.grid
cell-below p n below =
    number-below p.grid (out_of p.window (place_at p.shape n)) (out-inside p (place_at p.shape n) (place-inside p.shape n below))

out-within : (p : Pane) (q : Cell) → IsInside p.shape q → IsTrue (is_within p.window (out_of p.window q))
out-within p q inside =
    let fits = p.fits in
    let column : p.window.x0 + q.x ≤ p.window.x1 = omega (arith, fits.columns, inside.column) in
    let row : p.window.y0 + q.y ≤ p.window.y1 = omega (arith, fits.rows, inside.row) in
    grind (arith, nat_tests)

both : (a b : Bool) → IsTrue a → IsTrue b → IsTrue (a && b)
both a b first second = grind (arith, nat_tests)

pub cell-in-window : (p : Pane) (n : ℕ) → n < size_of p → IsTrue (in_window p.grid p.window (cell_in p n))
cell-in-window p n below =
    let P : Cell → Type 0 = λ q. IsTrue (is_within p.window q) in
    let inside = place-inside p.shape n below in
    let low = cell-below p n below in
    both (nat_lt (cell_in p n) (cells_of p.grid)) (is_within p.window (place_at p.grid (cell_in p n))) (grind (arith, nat_tests))
    (subst P (sym (place-cell p n below)) (out-within p (place_at p.shape n) inside))

-- a cell of the window has a number there
into-inside : (p : Pane) (q : Cell) → IsInside p.grid q → IsTrue (is_within p.window q) → IsInside p.shape (into p.window q)
into-inside p q inside within =
    let fits = p.fits in
    let x0 : p.window.x0 ≤ q.x = grind (arith, nat_tests) in
    let x1 : q.x ≤ p.window.x1 = grind (arith, nat_tests) in
    let y0 : p.window.y0 ≤ q.y = grind (arith, nat_tests) in
    let y1 : q.y ≤ p.window.y1 = grind (arith, nat_tests) in
    record {
      column = omega (arith, fits.columns, x0, x1);
      row = omega (arith, fits.rows, y0, y1);
      layer = omega (arith, fits.layers, inside.layer);
    }

out-into : (p : Pane) (q : Cell) → IsTrue (is_within p.window q) → out_of p.window (into p.window q) ≡ q
out-into p q within =
    let x0 : p.window.x0 ≤ q.x = grind (arith, nat_tests) in
    let y0 : p.window.y0 ≤ q.y = grind (arith, nat_tests) in
    same_cell (out_of p.window (into p.window q)) q (omega arith) (omega arith) refl

window-below : (g : Shape) (w : Window) (cell : ℕ) → IsTrue (in_window g w cell) → cell < cells_of g
window-below g w cell within = grind (arith, nat_tests)

window-within : (g : Shape) (w : Window) (cell : ℕ) → IsTrue (in_window g w cell) → IsTrue (is_within w (place_at g cell))
window-within g w cell within = grind (arith, nat_tests)

pub local-below : (p : Pane) (cell : ℕ) → IsTrue (in_window p.grid p.window cell) → local_of p cell < size_of p
local-below p cell within =
    number-below p.shape (into p.window (place_at p.grid cell))
    (into-inside p (place_at p.grid cell) (place-inside p.grid cell (window-below p.grid p.window cell within)) (window-within p.grid p.window cell within))

pub cell-local : (p : Pane) (cell : ℕ) → IsTrue (in_window p.grid p.window cell) → cell_in p (local_of p cell) ≡ cell
cell-local p cell within =
    let inside = into-inside p (place_at p.grid cell) (place-inside p.grid cell (window-below p.grid p.window cell within)) (window-within p.grid p.window cell within) in
    let f : Cell → ℕ = λ q. number_of p.grid (out_of p.window q) in
    let h : Cell → ℕ = λ q. number_of p.grid q in
    ap f (place-number p.shape (into p.window (place_at p.grid cell)) inside)
    ∙ ap h (out-into p (place_at p.grid cell) (window-within p.grid p.window cell within))
    ∙ number-place p.grid cell

-- numbers in the window keep the order of the grid's
rows-kept : (p : Pane) (a b : Cell) → IsInside p.shape a → IsInside p.shape b → a.layer * p.shape.rows + a.y < b.layer * p.shape.rows + b.y →
    (p.window.y0 + a.y) + a.layer * p.grid.rows < (p.window.y0 + b.y) + b.layer * p.grid.rows
rows-kept p a b a_in b_in less =
    let a_out = out-inside p a a_in in
    elim (cases_lt a.layer b.layer) [
      | inl lower ↦ let h = mul-add-lt a.layer p.grid.rows (p.window.y0 + a.y) b.layer lower a_out.row in omega (arith, h)
      | inr above ↦ elim (cases_lt b.layer a.layer) [
        | inl lower ↦ let h = mul-add-lt b.layer p.shape.rows b.y a.layer lower b_in.row in absurd (omega (arith, h))
        | inr below ↦
            let same : a.layer ≡ b.layer = omega arith in
            let one = ap (λ (n : ℕ). n * p.shape.rows) same in
            let two = ap (λ (n : ℕ). n * p.grid.rows) same in
            omega (arith, one, two)
      ]
    ]

-- a later number lies in a later row, or later in its row
later : (s : Shape) (m n : ℕ) → m < n → m < cells_of s → n < cells_of s →
    let a = place_at s m in let b = place_at s n in
    (a.layer * s.rows + a.y < b.layer * s.rows + b.y) ⊎ ((a.layer * s.rows + a.y ≡ b.layer * s.rows + b.y) × (a.x < b.x))
later s m n less m_in n_in =
    let a = place_at s m in
    let b = place_at s n in
    let at_m = number-place s m in
    let at_n = number-place s n in
    let a_in = place-inside s m m_in in
    let b_in = place-inside s n n_in in
    elim (cases_lt (a.layer * s.rows + a.y) (b.layer * s.rows + b.y)) [
      | inl lower ↦ inl lower
      | inr above ↦ elim (cases_lt (b.layer * s.rows + b.y) (a.layer * s.rows + a.y)) [
        | inl lower ↦ let h = mul-add-lt (b.layer * s.rows + b.y) s.columns b.x (a.layer * s.rows + a.y) lower b_in.column in absurd (omega (arith, h))
        | inr below ↦
            let same : a.layer * s.rows + a.y ≡ b.layer * s.rows + b.y = omega arith in
            let shared = ap (λ (r : ℕ). r * s.columns) same in
            inr (same, omega (arith, shared))
      ]
    ]

same-rows : (s : Shape) (a b : Cell) → IsInside s a → IsInside s b → a.layer * s.rows + a.y ≡ b.layer * s.rows + b.y → (a.layer ≡ b.layer) × (a.y ≡ b.y)
same-rows s a b a_in b_in same =
    elim (cases_lt a.layer b.layer) [
      | inl lower ↦ let h = mul-add-lt a.layer s.rows a.y b.layer lower a_in.row in absurd (omega (arith, h))
      | inr above ↦ elim (cases_lt b.layer a.layer) [
        | inl lower ↦ let h = mul-add-lt b.layer s.rows b.y a.layer lower b_in.row in absurd (omega (arith, h))
        | inr below ↦
            let level : a.layer ≡ b.layer = omega arith in
            let shared = ap (λ (r : ℕ). r * s.rows) level in
            (level, omega (arith, shared))
      ]
    ]

-- cells of the window keep the order of their numbers there
pub order-kept : (p : Pane) (m n : ℕ) → m < n → m < size_of p → n < size_of p → cell_in p m < cell_in p n
order-kept p m n less m_in n_in =
    let a = place_at p.shape m in
    let b = place_at p.shape n in
    let a_in = place-inside p.shape m m_in in
    let b_in = place-inside p.shape n n_in in
    let a_out = out-inside p a a_in in
    let b_out = out-inside p b b_in in
    elim (later p.shape m n less m_in n_in) [
      | inl lower ↦
          let row = rows-kept p a b a_in b_in lower in
          let h = mul-add-lt (a.layer * p.grid.rows + (p.window.y0 + a.y)) p.grid.columns (p.window.x0 + a.x) (b.layer * p.grid.rows + (p.window.y0 + b.y)) (omega (arith, row)) a_out.column in
          omega (arith, h)
      | inr level ↦
          let same = same-rows p.shape a b a_in b_in level.0 in
          let one = ap (λ (l : ℕ). (l * p.grid.rows + (p.window.y0 + a.y)) * p.grid.columns) same.0 in
          let two = ap (λ (y : ℕ). (b.layer * p.grid.rows + (p.window.y0 + y)) * p.grid.columns) same.1 in
          let ahead = level.1 in
          omega (arith, one, two)
    ]

pub order-back : (p : Pane) (m n : ℕ) → m < size_of p → n < size_of p → m ≤ n → cell_in p m ≤ cell_in p n
order-back p m n m_in n_in le =
    elim (cases_lt m n) [
      | inl less ↦ let h = order-kept p m n less m_in n_in in omega arith
      | inr more ↦ let same : m ≡ n = omega arith in let h = ap (λ (k : ℕ). cell_in p k) same in omega (arith, h)
    ]

pub local-cell : (p : Pane) (n : ℕ) → n < size_of p → local_of p (cell_in p n) ≡ n
local-cell p n below =
    let within = cell-in-window p n below in
    let m = local_of p (cell_in p n) in
    let back = cell-local p (cell_in p n) within in
    let m_in = local-below p (cell_in p n) within in
    elim (cases_lt m n) [
      | inl less ↦ let h = order-kept p m n less m_in below in absurd (omega (arith, h, back))
      | inr above ↦ elim (cases_lt n m) [
        | inl more ↦ let h = order-kept p n m more below m_in in absurd (omega (arith, h, back))
        | inr le ↦ omega arith
      ]
    ]
