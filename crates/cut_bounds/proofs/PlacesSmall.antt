-- The places of a wall's wires are those of the grid.
use Rattle.std.proofs.Common.{◌≡◌, ℕ, ◌+◌, ◌-◌, ◌*◌, ◌<◌, ◌≤◌, Bool, true, false, nat_lt, if◌then◌else◌, List, [], ◌++◌, All, sym, subst, arith}
use Rattle.std.proofs.lemmas.List.Elements.{All-append}
use Rattle.std.proofs.lemmas.List.FromFn.{get_or-map-range_with_len, length-map-range_with_len}
use Rattle.std.proofs.lemmas.Nat.{mul-add-lt}
use Rattle.gr_base.specs.declared.grid.Shape.{Shape}
use Rattle.cut_bounds.specs.Places.{places_of, run_of, left_run, right_run, lower_run, upper_run, IsWallOf}
use Rattle.cut_bounds.specs.TileWires.{tiles_of}
use Rattle.cut_bounds.specs.declared.wall.Wall.{Wall}
use Rattle.cut_bounds.specs.declared.wall.Wall.TheVariants.{Column, Row, Box}

run-within : (first step count most : ℕ) → ((k : ℕ) → k < count → first + k * step < most) → All (λ p. p < most) (run_of first step count)
run-within first step count most small k d inside =
    let lower : k < count = omega (arith, inside, length-map-range_with_len (λ (j : ℕ). first + j * step) 0 count) in
    let e = get_or-map-range_with_len (λ (j : ℕ). first + j * step) 0 count k k d lower (omega arith) in
    let s = small k lower in
    omega (arith, e, s)

all-if : (so : Bool) (xs : List ℕ) (most : ℕ) → All (λ p. p < most) xs → All (λ p. p < most) (if so then xs else [])
all-if true xs most all = all
all-if false xs most all = λ k d inside. absurd (omega (arith, inside))

column-within : (g : Shape) (x y0 count : ℕ) → x < g.columns → y0 + count ≤ g.rows → (k : ℕ) → k < count → (y0 * g.columns + x) + k * g.columns < 2 * tiles_of g
column-within g x y0 count inside up k lower =
    let e : (y0 + k) * g.columns + x ≡ (y0 * g.columns + x) + k * g.columns = omega arith in
    let low = mul-add-lt (y0 + k) g.columns x g.rows (omega (arith, lower, up)) inside in
    omega (arith, e, low)

row-within : (g : Shape) (y x0 count : ℕ) → y < g.rows → x0 + count ≤ g.columns → (k : ℕ) → k < count → (tiles_of g + (y * g.columns + x0)) + k * 1 < 2 * tiles_of g
row-within g y x0 count inside up k lower =
    let low = mul-add-lt y g.columns (x0 + k) g.rows inside (omega (arith, lower, up)) in
    omega (arith, low)

pub places-small : (g : Shape) (wall : Wall) → IsWallOf g wall → All (λ p. p < 2 * tiles_of g) (places_of g wall)
places-small g (Column x) is =
    run-within x g.columns g.rows (2 * tiles_of g) (λ k lower.
    let e : x ≡ 0 * g.columns + x = omega arith in
    subst (λ (n : ℕ). n + k * g.columns < 2 * tiles_of g) (sym e) (column-within g x 0 g.rows (omega (arith, is)) (omega arith) k lower))
places-small g (Row y) is =
    run-within (tiles_of g + (y * g.columns + 0)) 1 g.columns (2 * tiles_of g) (row-within g y 0 g.columns (omega (arith, is)) (omega arith))
places-small g (Box b) is =
    All-append (λ p. p < 2 * tiles_of g) ((left_run g b ++ right_run g b) ++ lower_run g b) (upper_run g b)
    (All-append (λ p. p < 2 * tiles_of g) (left_run g b ++ right_run g b) (lower_run g b)
    (All-append (λ p. p < 2 * tiles_of g) (left_run g b) (right_run g b)
    (all-if (nat_lt 0 b.x0) _ (2 * tiles_of g) (run-within (b.y0 * g.columns + (b.x0 - 1)) g.columns (b.y1 + 1 - b.y0) (2 * tiles_of g)
    (column-within g (b.x0 - 1) b.y0 (b.y1 + 1 - b.y0) (omega (arith, is.columns, is.right)) (omega (arith, is.rows, is.top)))))
    (all-if (nat_lt (b.x1 + 1) g.columns) _ (2 * tiles_of g) (run-within (b.y0 * g.columns + b.x1) g.columns (b.y1 + 1 - b.y0) (2 * tiles_of g)
    (column-within g b.x1 b.y0 (b.y1 + 1 - b.y0) is.right (omega (arith, is.rows, is.top))))))
    (all-if (nat_lt 0 b.y0) _ (2 * tiles_of g) (run-within (tiles_of g + ((b.y0 - 1) * g.columns + b.x0)) 1 (b.x1 + 1 - b.x0) (2 * tiles_of g)
    (row-within g (b.y0 - 1) b.x0 (b.x1 + 1 - b.x0) (omega (arith, is.rows, is.top)) (omega (arith, is.columns, is.right))))))
    (all-if (nat_lt (b.y1 + 1) g.rows) _ (2 * tiles_of g) (run-within (tiles_of g + (b.y1 * g.columns + b.x0)) 1 (b.x1 + 1 - b.x0) (2 * tiles_of g)
    (row-within g b.y1 b.x0 (b.x1 + 1 - b.x0) is.top (omega (arith, is.columns, is.right)))))
