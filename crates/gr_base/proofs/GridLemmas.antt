-- Cells by number, and the edges between them.
use Rattle.std.proofs.Common.{◌≡◌, ℕ, ◌+◌, ◌*◌, ◌/◌, ◌%◌, ◌<◌, ◌≤◌, ◌⊎◌, inl, inr, true, false, ◌==◌, nat_lt, min, Option, Some, None, IfSome, if◌then◌else◌, IsTrue, refl, sym, ap, subst, ◌∙◌, arith}
use Rattle.std.proofs.lemmas.Nat.{mod_below, div_below, div-add-mod', div-mul-add, mod-mul-add, mul-add-lt}
use Rattle.std.proofs.lemmas.Bool.{cases_lt, cases_eq, and_from}
use Rattle.std.proofs.lemmas.Bool.Decides.{nat_tests}
use Rattle.gr_base.specs.declared.grid.Cell.{Cell}
use Rattle.gr_base.specs.declared.grid.Edge.{Edge}
use Rattle.gr_base.specs.declared.grid.Shape.{Shape}
use Rattle.gr_base.specs.declared.grid.Way.{Way}
use Rattle.gr_base.specs.declared.grid.Way.TheVariants.{East, North, Up}
use Rattle.gr_base.specs.Grid.{cells_of, number_of, IsInside, place_at, gap, steps_between, AreNeighbours, way_between, edge_at, edge_of, stride, high_of, beyond, has_room, has_edge, Joins}

-- a grid has columns, rows and layers
pub some_columns : (g : Shape) → 0 < g.columns
some_columns g = let v = g.valid in grind (arith, nat_tests)

pub some_rows : (g : Shape) → 0 < g.rows
some_rows g = let v = g.valid in grind (arith, nat_tests)

pub some_layers : (g : Shape) → 0 < g.layers
some_layers g = let v = g.valid in grind (arith, nat_tests)

pub number-place : (g : Shape) (n : ℕ) → number_of g (place_at g n) ≡ n
number-place g n = rw (div-add-mod' (n / g.columns) g.rows) (div-add-mod' n g.columns)

pub place-inside : (g : Shape) (n : ℕ) → n < cells_of g → IsInside g (place_at g n)
place-inside g n below =
    let within : n < g.layers * g.rows * g.columns = omega arith in
    let row = div_below n g.columns (g.layers * g.rows) (some_columns g) within in
    record {
      column = mod_below n g.columns (some_columns g);
      row = mod_below (n / g.columns) g.rows (some_rows g);
      layer = div_below (n / g.columns) g.rows g.layers (some_rows g) row;
    }

-- cells are equal where their three numbers are
pub same_cell : (a b : Cell) → a.x ≡ b.x → a.y ≡ b.y → a.layer ≡ b.layer → a ≡ b
same_cell a b x y layer =
    let by_x : ℕ → Cell = λ n. record { x = n; y = a.y; layer = a.layer } in
    let by_y : ℕ → Cell = λ n. record { x = b.x; y = n; layer = a.layer } in
    let by_layer : ℕ → Cell = λ n. record { x = b.x; y = b.y; layer = n } in
    ap by_x x ∙ ap by_y y ∙ ap by_layer layer

pub place-number : (g : Shape) (cell : Cell) → IsInside g cell → place_at g (number_of g cell) ≡ cell
place-number g cell inside =
    let row : number_of g cell / g.columns ≡ cell.layer * g.rows + cell.y =
    div-mul-add (cell.layer * g.rows + cell.y) g.columns cell.x inside.column in
    let column : number_of g cell % g.columns ≡ cell.x =
    mod-mul-add (cell.layer * g.rows + cell.y) g.columns cell.x inside.column in
    let y : number_of g cell / g.columns % g.rows ≡ cell.y =
    ap (λ n. n % g.rows) row ∙ mod-mul-add cell.layer g.rows cell.y inside.row in
    let layer : number_of g cell / g.columns / g.rows ≡ cell.layer =
    ap (λ n. n / g.rows) row ∙ div-mul-add cell.layer g.rows cell.y inside.row in
    same_cell (place_at g (number_of g cell)) cell column y layer

pub number-below : (g : Shape) (cell : Cell) → IsInside g cell → number_of g cell < cells_of g
number-below g cell inside =
    let row = mul-add-lt cell.layer g.rows cell.y g.layers inside.layer inside.row in
    let all = mul-add-lt (cell.layer * g.rows + cell.y) g.columns cell.x (g.rows * g.layers) row inside.column in
    omega (arith, all)

-- an edge's other end is the number of the place that way
pub high-number : (g : Shape) (low : ℕ) (way : Way) → high_of g (edge_at low way) ≡ number_of g (beyond (place_at g low) way)
high-number g low East = let e = number-place g low in omega arith
high-number g low North = let e = number-place g low in omega arith
high-number g low Up = let e = number-place g low in omega arith

pub beyond-inside : (g : Shape) (cell : Cell) (way : Way) → IsInside g cell → IsTrue (has_room g cell way) → IsInside g (beyond cell way)
beyond-inside g cell East inside room = record { column = grind (arith, nat_tests); row = inside.row; layer = inside.layer }
beyond-inside g cell North inside room = record { column = inside.column; row = grind (arith, nat_tests); layer = inside.layer }
beyond-inside g cell Up inside room = record { column = inside.column; row = inside.row; layer = grind (arith, nat_tests) }

-- an edge's low end is a cell with room that way
pub edge-low : (g : Shape) (e : Edge) → IsTrue (has_edge g e) → e.low < cells_of g
edge-low g e edge = grind (arith, nat_tests)

pub edge-room : (g : Shape) (e : Edge) → IsTrue (has_edge g e) → IsTrue (has_room g (place_at g e.low) e.way)
edge-room g e edge = grind (arith, nat_tests)

-- the place of an edge's other end
pub place-high : (g : Shape) (e : Edge) → IsTrue (has_edge g e) → place_at g (high_of g e) ≡ beyond (place_at g e.low) e.way
place-high g e edge =
    rw (high-number g e.low e.way)
    (place-number g (beyond (place_at g e.low) e.way)
    (beyond-inside g (place_at g e.low) e.way (place-inside g e.low (edge-low g e edge)) (edge-room g e edge)))

pub high-below : (g : Shape) (e : Edge) → IsTrue (has_edge g e) → high_of g e < cells_of g
high-below g e edge =
    rw (high-number g e.low e.way)
    (number-below g (beyond (place_at g e.low) e.way)
    (beyond-inside g (place_at g e.low) e.way (place-inside g e.low (edge-low g e edge)) (edge-room g e edge)))

-- the choice that `edge_of` makes, on plain values
chosen : (steps low a : ℕ) (way is_way : Way) → steps ≡ 1 → low ≡ a → way ≡ is_way →
    (if steps == 1 then Some (edge_at low way) else None) ≡ Some (edge_at a is_way)
chosen steps low a way is_way one same is = rw (one, same, is) refl

-- two cells of which one is the place beyond the other are joined by the edge that way
pub edge-beyond : (g : Shape) (a b : ℕ) (way : Way) →
    place_at g b ≡ beyond (place_at g a) way → b ≡ a + stride g way → edge_of g a b ≡ Some (edge_at a way)
edge-beyond g a b East place is =
    let x : (place_at g b).x ≡ (place_at g a).x + 1 = ap (λ (c : Cell). c.x) place in
    let y : (place_at g b).y ≡ (place_at g a).y = ap (λ (c : Cell). c.y) place in
    let layer : (place_at g b).layer ≡ (place_at g a).layer = ap (λ (c : Cell). c.layer) place in
    let apart : ((place_at g a).x == (place_at g b).x) ≡ false = grind (arith, nat_tests) in
    chosen (steps_between g a b) (min a b) a (way_between g a b) East (omega arith) (omega arith) (rw apart refl)
edge-beyond g a b North place is =
    let x : (place_at g b).x ≡ (place_at g a).x = ap (λ (c : Cell). c.x) place in
    let y : (place_at g b).y ≡ (place_at g a).y + 1 = ap (λ (c : Cell). c.y) place in
    let layer : (place_at g b).layer ≡ (place_at g a).layer = ap (λ (c : Cell). c.layer) place in
    let same : ((place_at g a).x == (place_at g b).x) ≡ true = grind (arith, nat_tests) in
    let apart : ((place_at g a).y == (place_at g b).y) ≡ false = grind (arith, nat_tests) in
    chosen (steps_between g a b) (min a b) a (way_between g a b) North (omega arith) (omega arith) (rw (same, apart) refl)
edge-beyond g a b Up place is =
    let x : (place_at g b).x ≡ (place_at g a).x = ap (λ (c : Cell). c.x) place in
    let y : (place_at g b).y ≡ (place_at g a).y = ap (λ (c : Cell). c.y) place in
    let layer : (place_at g b).layer ≡ (place_at g a).layer + 1 = ap (λ (c : Cell). c.layer) place in
    let same : ((place_at g a).x == (place_at g b).x) ≡ true = grind (arith, nat_tests) in
    let level : ((place_at g a).y == (place_at g b).y) ≡ true = grind (arith, nat_tests) in
    chosen (steps_between g a b) (min a b) a (way_between g a b) Up (omega arith) (omega arith) (rw (same, level) refl)

pub edge-high : (g : Shape) (e : Edge) → IsTrue (has_edge g e) → edge_of g e.low (high_of g e) ≡ Some e
edge-high g e edge = edge-beyond g e.low (high_of g e) e.way (place-high g e edge) refl

-- a grid has few cells
pub few_cells : (g : Shape) → cells_of g ≤ 8388608
few_cells g = let v = g.valid in grind (arith, nat_tests)

-- a place inside that lies beyond another shows that there was room
room-beyond : (g : Shape) (cell : Cell) (way : Way) → IsInside g (beyond cell way) → IsTrue (has_room g cell way)
room-beyond g cell East inside = let h = inside.column in grind (arith, nat_tests)
room-beyond g cell North inside = let h = inside.row in grind (arith, nat_tests)
room-beyond g cell Up inside = let h = inside.layer in grind (arith, nat_tests)

-- a cell and the one beyond it are joined by the edge that way
pub edge-of-beyond : (g : Shape) (a b : ℕ) (way : Way) → a < cells_of g → b < cells_of g →
    place_at g b ≡ beyond (place_at g a) way → IsTrue (has_edge g (edge_at a way)) × (high_of g (edge_at a way) ≡ b)
edge-of-beyond g a b way a_in b_in place =
    let P : Cell → Type 0 = λ cell. IsInside g cell in
    let inside : IsInside g (beyond (place_at g a) way) = subst P place (place-inside g b b_in) in
    let f : Cell → ℕ = λ cell. number_of g cell in (
      and_from (nat_lt a (cells_of g)) (has_room g (place_at g a) way) (grind (arith, nat_tests)) (room-beyond g (place_at g a) way inside),
      high-number g a way ∙ ap f (sym place) ∙ number-place g b,
    )

pub joins-beyond : (g : Shape) (a b : ℕ) (way : Way) → a < cells_of g → b < cells_of g →
    place_at g b ≡ beyond (place_at g a) way → Joins g (edge_at (min a b) way) a b
joins-beyond g a b way a_in b_in place =
    let e = edge-of-beyond g a b way a_in b_in place in
    let higher : a ≤ b = omega (arith, e.1) in
    let least : min a b ≡ a = omega arith in
    let P : ℕ → Type 0 = λ n. Joins g (edge_at n way) a b in
    subst P (sym least) (record { edge = e.0; ends = inl (refl, e.1) })

pub joins-swap : (g : Shape) (e : Edge) (a b : ℕ) → Joins g e a b → Joins g e b a
joins-swap g e a b joins = record { edge = joins.edge; ends = elim joins.ends [ inl h ↦ inr h | inr h ↦ inl h ] }

-- how far apart two places are
abbrev apart : Cell → Cell → ℕ
apart p q = gap p.x q.x + gap p.y q.y + gap p.layer q.layer

-- the way that leads from one of two places to the other
abbrev way_of : Cell → Cell → Way
way_of p q = if p.x == q.x then (if p.y == q.y then Up else North) else East

abbrev LeadsTo : Cell → Cell → Type 0
LeadsTo p q = (q ≡ beyond p (way_of p q)) ⊎ (p ≡ beyond q (way_of p q))

-- cells are told apart by one of their numbers
lead-by : (p q : Cell) (way : Way) → way_of p q ≡ way → (q ≡ beyond p way) ⊎ (p ≡ beyond q way) → LeadsTo p q
lead-by p q way is leads =
    let P : Way → Type 0 = λ w. (q ≡ beyond p w) ⊎ (p ≡ beyond q w) in
    subst P (sym is) leads

lead-east : (p q : Cell) → apart p q ≡ 1 → (p.x ≡ q.x → ⊥) → LeadsTo p q
lead-east p q one other =
    let test : (p.x == q.x) ≡ false = grind (arith, nat_tests) in
    lead-by p q East (rw test refl)
    (elim (cases_lt p.x q.x) [
      | inl lt ↦ inl (same_cell q (beyond p East) (omega arith) (omega arith) (omega arith))
      | inr ge ↦ inr (same_cell p (beyond q East) (omega arith) (omega arith) (omega arith))
    ])

lead-north : (p q : Cell) → apart p q ≡ 1 → p.x ≡ q.x → (p.y ≡ q.y → ⊥) → LeadsTo p q
lead-north p q one same other =
    let level : (p.x == q.x) ≡ true = grind (arith, nat_tests) in
    let test : (p.y == q.y) ≡ false = grind (arith, nat_tests) in
    lead-by p q North (rw (level, test) refl)
    (elim (cases_lt p.y q.y) [
      | inl lt ↦ inl (same_cell q (beyond p North) (omega arith) (omega arith) (omega arith))
      | inr ge ↦ inr (same_cell p (beyond q North) (omega arith) (omega arith) (omega arith))
    ])

lead-up : (p q : Cell) → apart p q ≡ 1 → p.x ≡ q.x → p.y ≡ q.y → LeadsTo p q
lead-up p q one same level =
    let test_x : (p.x == q.x) ≡ true = grind (arith, nat_tests) in
    let test_y : (p.y == q.y) ≡ true = grind (arith, nat_tests) in
    lead-by p q Up (rw (test_x, test_y) refl)
    (elim (cases_lt p.layer q.layer) [
      | inl lt ↦ inl (same_cell q (beyond p Up) (omega arith) (omega arith) (omega arith))
      | inr ge ↦ inr (same_cell p (beyond q Up) (omega arith) (omega arith) (omega arith))
    ])

lead : (p q : Cell) → apart p q ≡ 1 → LeadsTo p q
lead p q one =
    elim (cases_eq p.x q.x) [
      | inl same ↦ elim (cases_eq p.y q.y) [
        | inl level ↦ lead-up p q one same level
        | inr other ↦ lead-north p q one same other
      ]
      | inr other ↦ lead-east p q one other
    ]

-- neighbours are joined by the edge between them
pub joins-neighbours : (g : Shape) (a b : ℕ) → a < cells_of g → b < cells_of g → AreNeighbours g a b →
    Joins g (edge_at (min a b) (way_between g a b)) a b
joins-neighbours g a b a_in b_in one =
    elim (lead (place_at g a) (place_at g b) one) [
      | inl place ↦ joins-beyond g a b (way_between g a b) a_in b_in place
      | inr place ↦
          let P : ℕ → Type 0 = λ n. Joins g (edge_at n (way_between g a b)) a b in
          let least : min b a ≡ min a b = omega arith in
          subst P least (joins-swap g (edge_at (min b a) (way_between g a b)) b a (joins-beyond g b a (way_between g a b) b_in a_in place))
    ]

-- the edge between two cells joins them
pub edge_of-joins : (g : Shape) (a b : ℕ) → a < cells_of g → b < cells_of g → IfSome (edge_of g a b) (λ e. Joins g e a b)
edge_of-joins g a b a_in b_in =
    elim (cases_eq (steps_between g a b) 1) [
      | inl one ↦
          let test : (steps_between g a b == 1) ≡ true = grind (arith, nat_tests) in
          let P : Option Edge → Type 0 = λ o. IfSome o (λ e. Joins g e a b) in
          let is : edge_of g a b ≡ Some (edge_at (min a b) (way_between g a b)) = rw test refl in
          subst P (sym is) (joins-neighbours g a b a_in b_in one)
      | inr other ↦
          let test : (steps_between g a b == 1) ≡ false = grind (arith, nat_tests) in
          let P : Option Edge → Type 0 = λ o. IfSome o (λ e. Joins g e a b) in
          let is : edge_of g a b ≡ None = rw test refl in
          subst P (sym is) tt
    ]
