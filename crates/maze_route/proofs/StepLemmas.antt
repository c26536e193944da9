-- Steps between the cells of a window.
use Rattle.std.proofs.Common.{◌≡◌, ℕ, ◌+◌, ◌-◌, ◌<◌, ◌≤◌, ◌⊎◌, inl, inr, Bool, true, false, ◌&&◌, nat_lt, Option, Some, None, IfSome, if◌then◌else◌, IsTrue, refl, sym, ap, subst, ◌∙◌, arith}
use Rattle.std.specs.Prelude.{option_and_then}
use Rattle.std.specs.Option.{option_map}
use Rattle.std.proofs.lemmas.Bool.Decides.{nat_tests}
use Rattle.std.proofs.lemmas.Option.{none-some, same_Some}
use Rattle.gr_base.proofs.TreeEdges.{edge_of-swap}
use Rattle.gr_base.specs.declared.grid.Cell.{Cell}
use Rattle.gr_base.specs.declared.grid.Edge.{Edge}
use Rattle.gr_base.specs.declared.grid.Shape.{Shape}
use Rattle.gr_base.specs.declared.grid.Way.{Way}
use Rattle.gr_base.specs.declared.grid.Way.TheVariants.{East, North, Up}
use Rattle.gr_base.specs.Grid.{cells_of, number_of, place_at, IsInside, beyond, stride, high_of, has_room, has_edge, edge_at, edge_of, Joins}
use Rattle.gr_base.proofs.GridLemmas.{number-place, place-inside, same_cell, place-number, number-below, high-number, edge-room, place-high, high-below, edge-beyond, edge-of-beyond, edge_of-joins}
use Rattle.maze_route.specs.Panes.{out_of}
use Rattle.cost_rules.specs.Prices.{ArePrices}
use Rattle.maze_route.specs.Steps.{Step, size_of, cell_in, pane_step, ahead_of, behind_of, has_room_behind, before, rest_of, IsGuide, made_step, step_to}
use Rattle.maze_route.specs.Windows.{in_window, window_step}
use Rattle.maze_route.specs.declared.pane.Pane.{Pane}
use Rattle.maze_route.specs.declared.pane.Aim.{Aim}
use Rattle.maze_route.specs.declared.window.Window.{Window}
use Rattle.maze_route.proofs.PaneLemmas.{place-cell, cell-below, cell-in-window}

both : (a b : Bool) → IsTrue a → IsTrue b → (a && b) ≡ true
both a b first second = grind (arith, nat_tests)

-- a cell and the next along a way
pub record IsNext (p : Pane) (n m : ℕ) (way : Way) : Type 0 where
  pub low_inside : n < size_of p
  pub inside : m < size_of p
  pub place : place_at p.shape m ≡ beyond (place_at p.shape n) way
  pub edge : IsTrue (has_edge p.grid (edge_at (cell_in p n) way))
  pub high : high_of p.grid (edge_at (cell_in p n) way) ≡ cell_in p m
  pub joins : edge_of p.grid (cell_in p n) (cell_in p m) ≡ Some (edge_at (cell_in p n) way)

out-beyond : (w : Window) (q : Cell) (way : Way) → out_of w (beyond q way) ≡ beyond (out_of w q) way
out-beyond w q East = same_cell (out_of w (beyond q East)) (beyond (out_of w q) East) (omega arith) refl refl
out-beyond w q North = same_cell (out_of w (beyond q North)) (beyond (out_of w q) North) refl (omega arith) refl
out-beyond w q Up = refl

pub next-by : (p : Pane) (n m : ℕ) (way : Way) → n < size_of p → m < size_of p → place_at p.shape m ≡ beyond (place_at p.shape n) way → IsNext p n m way
next-by p n m way n_in m_in place =
    let out : Cell → Cell = λ q. out_of p.window q in
    let onward : Cell → Cell = λ q. beyond q way in
    let far : place_at p.grid (cell_in p m) ≡ beyond (place_at p.grid (cell_in p n)) way =
    place-cell p m m_in ∙ ap out place ∙ out-beyond p.window (place_at p.shape n) way ∙ ap onward (sym (place-cell p n n_in)) in
    let edge = edge-of-beyond p.grid (cell_in p n) (cell_in p m) way (cell-below p n n_in) (cell-below p m m_in) far in
    record {
      low_inside = n_in;
      inside = m_in;
      place = place;
      edge = edge.0;
      high = edge.1;
      joins = edge-beyond p.grid (cell_in p n) (cell_in p m) way far (sym (edge.1));
    }

pub next-ahead : (p : Pane) (n : ℕ) (way : Way) → n < size_of p → IsTrue (has_room p.shape (place_at p.shape n) way) → IsNext p n (n + stride p.shape way) way
next-ahead p n way n_in room =
    let edge : IsTrue (has_edge p.shape (edge_at n way)) = both (nat_lt n (cells_of p.shape)) (has_room p.shape (place_at p.shape n) way) (grind (arith, nat_tests)) room in
    next-by p n (n + stride p.shape way) way n_in (high-below p.shape (edge_at n way) edge) (place-high p.shape (edge_at n way) edge)

before-inside : (s : Shape) (q : Cell) (way : Way) → IsInside s q → IsInside s (before q way)
before-inside s q East inside = record { column = omega (arith, inside.column); row = inside.row; layer = inside.layer }
before-inside s q North inside = record { column = inside.column; row = omega (arith, inside.row); layer = inside.layer }
before-inside s q Up inside = record { column = inside.column; row = inside.row; layer = omega (arith, inside.layer) }

beyond-before : (q : Cell) (way : Way) → IsTrue (has_room_behind q way) → beyond (before q way) way ≡ q
beyond-before q East room = let some : 0 < q.x = grind (arith, nat_tests) in same_cell (beyond (before q East) East) q (omega arith) refl refl
beyond-before q North room = let some : 0 < q.y = grind (arith, nat_tests) in same_cell (beyond (before q North) North) q refl (omega arith) refl
beyond-before q Up room = let some : 0 < q.layer = grind (arith, nat_tests) in same_cell (beyond (before q Up) Up) q refl refl (omega arith)

pub record IsBehind (p : Pane) (n m : ℕ) (way : Way) : Type 0 where
  pub next : IsNext p m n way
  pub sum : m + stride p.shape way ≡ n

pub next-behind : (p : Pane) (n : ℕ) (way : Way) → n < size_of p → IsTrue (has_room_behind (place_at p.shape n) way) → IsBehind p n (n - stride p.shape way) way
next-behind p n way n_in room =
    let s = p.shape in
    let q = before (place_at s n) way in
    let q_in = before-inside s (place_at s n) way (place-inside s n n_in) in
    let m = number_of s q in
    let m_in : m < size_of p = number-below s q q_in in
    let number : Cell → ℕ = λ c. number_of s c in
    let onward : Cell → Cell = λ c. beyond c way in
    let place : place_at s n ≡ beyond (place_at s m) way = sym (beyond-before (place_at s n) way room) ∙ ap onward (sym (place-number s q q_in)) in
    let sum : m + stride s way ≡ n = high-number s m way ∙ ap number (sym place) ∙ number-place s n in
    let same : m ≡ n - stride s way = omega arith in
    let P : ℕ → Type 0 = λ k. IsBehind p n k way in
    subst P same (record { next = next-by p m n way m_in n_in place; sum = sum })

-- a step costs the price of the edge
step-some : (p : Pane) (price : Edge → Option ℕ) (n m : ℕ) (e : Edge) → n < size_of p → m < size_of p →
    edge_of p.grid (cell_in p n) (cell_in p m) ≡ Some e → pane_step p price n m ≡ price e
step-some p price n m e n_in m_in joins =
    let first : (nat_lt n (size_of p) && nat_lt m (size_of p)) ≡ true = grind (arith, nat_tests) in
    let second : (in_window p.grid p.window (cell_in p n) && in_window p.grid p.window (cell_in p m)) ≡ true =
    both (in_window p.grid p.window (cell_in p n)) (in_window p.grid p.window (cell_in p m)) (cell-in-window p n n_in) (cell-in-window p m m_in) in
    let price_of : Option Edge → Option ℕ = λ o. option_and_then price o in
    ap (λ b. if b then window_step p.grid p.window price (cell_in p n) (cell_in p m) else None) first
    ∙ ap (λ b. if b then option_and_then price (edge_of p.grid (cell_in p n) (cell_in p m)) else None) second
    ∙ ap price_of joins

pub step-ahead : (p : Pane) (price : Edge → Option ℕ) (n m : ℕ) (way : Way) → IsNext p n m way → pane_step p price n m ≡ price (edge_at (cell_in p n) way)
step-ahead p price n m way next = step-some p price n m (edge_at (cell_in p n) way) next.low_inside next.inside next.joins

pub step-behind : (p : Pane) (price : Edge → Option ℕ) (n m : ℕ) (way : Way) → IsNext p n m way → pane_step p price m n ≡ price (edge_at (cell_in p n) way)
step-behind p price n m way next =
    step-some p price m n (edge_at (cell_in p n) way) next.inside next.low_inside (edge_of-swap p.grid (cell_in p m) (cell_in p n) ∙ next.joins)

-- what a step is
pub record IsStepBy (p : Pane) (price : Edge → Option ℕ) (n m k : ℕ) : Type 0 where
  pub way : Way
  pub edge : Edge
  pub has : IsTrue (has_edge p.grid edge)
  pub priced : price edge ≡ Some k
  pub goes : edge.way ≡ way
  pub next : (IsNext p n m way) ⊎ (IsNext p m n way)

pub chosen-some : (b : Bool) (o : Option ℕ) (k : ℕ) → (if b then o else None) ≡ Some k → (b ≡ true) × (o ≡ Some k)
chosen-some true o k is = (refl, is)
chosen-some false o k is = absurd (none-some k is)

pub then-some : (price : Edge → Option ℕ) (o : Option Edge) (k : ℕ) → option_and_then price o ≡ Some k → (e : Edge) × ((o ≡ Some e) × (price e ≡ Some k))
then-some price None k is = absurd (none-some k is)
then-some price (Some e) k is = (e, (refl, is))

pub at-some : {A : Type 0} (o : Option A) (x : A) (P : A → Type 0) → o ≡ Some x → IfSome o P → P x
at-some {A = A} o x P is h = let Q : Option A → Type 0 = λ q. IfSome q P in let r : IfSome (Some x) P = subst Q is h in r

cancel-out : (w : Window) (a b : Cell) (way : Way) → out_of w b ≡ beyond (out_of w a) way → b ≡ beyond a way
cancel-out w a b way same =
    let whole : out_of w b ≡ out_of w (beyond a way) = same ∙ sym (out-beyond w a way) in
    let x : w.x0 + b.x ≡ w.x0 + (beyond a way).x = ap (λ (c : Cell). c.x) whole in
    let y : w.y0 + b.y ≡ w.y0 + (beyond a way).y = ap (λ (c : Cell). c.y) whole in
    let layer : b.layer ≡ (beyond a way).layer = ap (λ (c : Cell). c.layer) whole in
    same_cell b (beyond a way) (omega arith) (omega arith) layer

next-from : (p : Pane) (n m : ℕ) (e : Edge) → n < size_of p → m < size_of p → IsTrue (has_edge p.grid e) → e.low ≡ cell_in p n → high_of p.grid e ≡ cell_in p m → IsNext p n m e.way
next-from p n m e n_in m_in has low high =
    let place : ℕ → Cell = λ c. place_at p.grid c in
    let onward : ℕ → Cell = λ c. beyond (place_at p.grid c) e.way in
    let out : Cell → Cell = λ q. beyond q e.way in
    next-by p n m e.way n_in m_in
    (cancel-out p.window (place_at p.shape n) (place_at p.shape m) e.way
    (sym (place-cell p m m_in) ∙ ap place (sym high) ∙ place-high p.grid e has ∙ ap onward low ∙ ap out (place-cell p n n_in)))

pub step-by : (p : Pane) (price : Edge → Option ℕ) (n m k : ℕ) → pane_step p price n m ≡ Some k → IsStepBy p price n m k
step-by p price n m k is =
    let first = chosen-some (nat_lt n (size_of p) && nat_lt m (size_of p)) (window_step p.grid p.window price (cell_in p n) (cell_in p m)) k is in
    let inside = first.0 in
    let n_in : n < size_of p = grind (arith, nat_tests) in
    let m_in : m < size_of p = grind (arith, nat_tests) in
    let second = chosen-some (in_window p.grid p.window (cell_in p n) && in_window p.grid p.window (cell_in p m)) (option_and_then price (edge_of p.grid (cell_in p n) (cell_in p m))) k first.1 in
    let found = then-some price (edge_of p.grid (cell_in p n) (cell_in p m)) k second.1 in
    let e = found.0 in
    let joins = at-some (edge_of p.grid (cell_in p n) (cell_in p m)) e (λ (f : Edge). Joins p.grid f (cell_in p n) (cell_in p m)) found.1.0
    (edge_of-joins p.grid (cell_in p n) (cell_in p m) (cell-below p n n_in) (cell-below p m m_in)) in
    record {
      way = e.way;
      edge = e;
      has = joins.edge;
      priced = found.1.1;
      goes = refl;
      next = elim (joins.ends) [
        | inl ends ↦ inl (next-from p n m e n_in m_in joins.edge ends.0 ends.1)
        | inr ends ↦ inr (next-from p m n e m_in n_in joins.edge ends.0 ends.1)
      ];
    }

-- each step leads to a neighbour ahead or behind
pub ahead-is : (p : Pane) (n m : ℕ) (way : Way) → IsNext p n m way → ahead_of p.shape n way ≡ Some m
ahead-is p n m way next =
    let edge = edge-of-beyond p.shape n m way next.low_inside next.inside next.place in
    let room : has_room p.shape (place_at p.shape n) way ≡ true = edge-room p.shape (edge_at n way) edge.0 in
    ap (λ b. if b then Some (n + stride p.shape way) else None) room ∙ ap (λ (c : ℕ). Some c) edge.1

-- there is room for the edge between a cell and the next
pub next-room : (p : Pane) (n m : ℕ) (way : Way) → IsNext p n m way → IsTrue (has_room p.shape (place_at p.shape n) way)
next-room p n m way next = edge-room p.shape (edge_at n way) (edge-of-beyond p.shape n m way next.low_inside next.inside next.place).0

room-behind : (q : Cell) (way : Way) → has_room_behind (beyond q way) way ≡ true
room-behind q East = grind (arith, nat_tests)
room-behind q North = grind (arith, nat_tests)
room-behind q Up = grind (arith, nat_tests)

pub behind-is : (p : Pane) (n m : ℕ) (way : Way) → IsNext p m n way → behind_of p.shape n way ≡ Some m
behind-is p n m way next =
    let edge = edge-of-beyond p.shape m n way next.low_inside next.inside next.place in
    let test : Cell → Bool = λ q. has_room_behind q way in
    let room : has_room_behind (place_at p.shape n) way ≡ true = ap test next.place ∙ room-behind (place_at p.shape m) way in
    let sum : m + stride p.shape way ≡ n = edge.1 in
    let same : n - stride p.shape way ≡ m = omega arith in
    ap (λ b. if b then Some (n - stride p.shape way) else None) room ∙ ap (λ (c : ℕ). Some c) same

pub step-least : (p : Pane) (ways : ℕ → Way → Bool) (price : Edge → Option ℕ) → ArePrices p.grid ways price → (n m k : ℕ) → pane_step p price n m ≡ Some k → 1 ≤ k
step-least p ways price prices n m k is =
    let by = step-by p price n m k is in
    at-some (price by.edge) k (λ cost. 1 ≤ cost) by.priced (prices.least by.edge by.has)

pub before-is : (q : Cell) (way : Way) → before (beyond q way) way ≡ q
before-is q East = same_cell (before (beyond q East) East) q (omega arith) refl refl
before-is q North = same_cell (before (beyond q North) North) q refl (omega arith) refl
before-is q Up = same_cell (before (beyond q Up) Up) q refl refl (omega arith)

map-some : {A B : Type 0} (f : A → B) (o : Option A) (y : B) → option_map f o ≡ Some y → (x : A) × ((o ≡ Some x) × (f x ≡ y))
map-some f None y is = absurd (none-some y is)
map-some f (Some x) y is = (x, (refl, same_Some (f x) y is))

-- a step leads to a cell of the window, and its rest is no less than what the step saves
pub step-to-some : (p : Pane) (price : Edge → Option ℕ) (aim : Aim) (n : ℕ) (o : Option ℕ) (s : Step) → step_to p price aim n o ≡ Some s →
    (o ≡ Some s.cell) × ((pane_step p price n s.cell ≡ Some s.cost) × (s.rest ≡ rest_of p aim s.cell))
step-to-some p price aim n None s is = absurd (none-some s is)
step-to-some p price aim n (Some to) s is =
    let found = map-some (made_step p aim to) (pane_step p price n to) s is in
    let cost = found.0 in
    let cell : to ≡ s.cell = ap (λ (t : Step). t.cell) (found.1.1) in
    let paid : cost ≡ s.cost = ap (λ (t : Step). t.cost) (found.1.1) in
    let left : rest_of p aim to ≡ s.rest = ap (λ (t : Step). t.rest) (found.1.1) in
    let P : ℕ → Type 0 = λ m. pane_step p price n m ≡ Some s.cost in (
      ap (λ (m : ℕ). Some m) cell,
      (
        subst P cell (found.1.0 ∙ ap (λ (k : ℕ). Some k) paid),
        sym left ∙ ap (λ (m : ℕ). rest_of p aim m) cell,
      ),
    )

-- what a step must be to be taken
pub step-fits : (p : Pane) (price : Edge → Option ℕ) (aim : Aim) → IsGuide p price aim → (n from last size : ℕ) (o : Option ℕ) (step : Option Step) →
    step ≡ step_to p price aim n o → size ≡ size_of p → last ≤ from + rest_of p aim n →
    (IfSome step (λ s. s.cell < size)) × (IfSome step (λ s. last ≤ from + s.cost + s.rest))
step-fits p price aim guide n from last size o None is all low = (tt, tt)
step-fits p price aim guide n from last size o (Some s) is all low =
    let to = step-to-some p price aim n o s (sym is) in
    let by = step-by p price n s.cell s.cost to.1.0 in
    let falls = guide.falls n s.cell s.cost to.1.0 in
    let rest = to.1.1 in
    let inside : s.cell < size_of p = elim (by.next) [ inl next ↦ next.inside | inr next ↦ next.low_inside ] in
    (omega (arith, inside), omega (arith, falls, rest))

-- the same, by the cell's number
pub spot-fits : (p : Pane) (price : Edge → Option ℕ) (aim : Aim) → IsGuide p price aim →
    (n cell from last last_now size size_now : ℕ) (o : Option ℕ) (step : Option Step) →
    n ≡ cell → step ≡ step_to p price aim n o → size ≡ size_of p → last ≤ from + rest_of p aim cell → size_now ≡ size → last_now ≡ last →
    (IfSome step (λ s. s.cell < size_now)) × (IfSome step (λ s. last_now ≤ from + s.cost + s.rest))
spot-fits p price aim guide n cell from last last_now size size_now o step local is all low size_is last_is =
    let rest = ap (λ (m : ℕ). rest_of p aim m) local in
    let near : last_now ≤ from + rest_of p aim n = omega (arith, rest) in
    step-fits p price aim guide n from last_now size_now o step is (size_is ∙ all) near
