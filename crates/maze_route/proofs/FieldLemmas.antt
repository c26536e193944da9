-- The prices of a window's edges, line by line.
use Rattle.std.proofs.Common.{◌≡◌, ℕ, suc, zero, ◌+◌, ◌-◌, ◌*◌, ◌/◌, ◌%◌, ◌<◌, ◌≤◌, inl, inr, Bool, true, false, nat_lt, List, length, replicate, Option, Some, None, IsSome, IfSome, if◌then◌else◌, IsTrue, refl, sym, ap, subst, ◌∙◌, arith}
use Rattle.std.proofs.lemmas.Bool.{cases_lt, cases_Bool, both_ways}
use Rattle.std.proofs.lemmas.Bool.Decides.{nat_tests}
use Rattle.std.proofs.lemmas.List.{length-replicate}
use Rattle.std.proofs.lemmas.Nat.{div-add-mod', mod_below, div_below}
use Rattle.std.proofs.Math.Nat.{mul-le-mul_right}
use Rattle.cost_rules.specs.Formulas.{most_cost}
use Rattle.cost_rules.specs.Prices.{layer_of, ArePrices}
use Rattle.gr_base.specs.declared.grid.Cell.{Cell}
use Rattle.gr_base.specs.declared.grid.Edge.{Edge}
use Rattle.gr_base.specs.declared.grid.Shape.{Shape}
use Rattle.gr_base.specs.declared.grid.Way.{Way}
use Rattle.gr_base.specs.declared.grid.Way.TheVariants.{East, North, Up}
use Rattle.gr_base.specs.Grid.{number_of, place_at, IsInside, has_room, has_edge, edge_at, is_wire_way}
use Rattle.gr_base.proofs.GridLemmas.{some_columns, some_rows, place-number, number-below}
use Rattle.maze_route.specs.Fields.{edges_in_line, ArePricedTo, IsTable}
use Rattle.maze_route.specs.Runs.{no_price, price_at, AreSideBySide, IsRun}
use Rattle.maze_route.specs.Panes.{out_of}
use Rattle.maze_route.specs.Steps.{size_of, cell_in}
use Rattle.maze_route.specs.declared.pane.Pane.{Pane}
use Rattle.maze_route.proofs.PaneLemmas.{place-cell}
use Rattle.maze_route.proofs.StepLemmas.{next-ahead}

-- what is held
replicate-none : (count n : ℕ) → price_at (replicate count no_price) n ≡ None
replicate-none zero n = refl
replicate-none (suc count) zero = refl
replicate-none (suc count) (suc n) = replicate-none count n

pub priced-none : (p : Pane) (price : Edge → Option ℕ) (way : Way) (prices : List ℕ) → prices ≡ replicate (size_of p) no_price → ArePricedTo p price way 0 prices
priced-none p price way prices are = record {
  size = ap (λ (xs : List ℕ). length xs) are ∙ length-replicate (size_of p) no_price;
  first = λ n below inside room. absurd (omega arith);
  others = λ n above. ap (λ (xs : List ℕ). price_at xs n) are ∙ replicate-none (size_of p) n;
}

-- a cell of a line
pub record IsInLine (p : Pane) (line x n : ℕ) : Type 0 where
  pub inside : n < size_of p
  pub place : place_at p.shape n ≡ record { x = x; y = line % p.shape.rows; layer = line / p.shape.rows }
  pub cell : cell_in p n ≡ number_of p.grid (record { x = p.window.x0; y = p.window.y0 + line % p.shape.rows; layer = line / p.shape.rows }) + x

pub in-line : (p : Pane) (line x n : ℕ) → line < p.shape.rows * p.shape.layers → x < p.shape.columns → n ≡ line * p.shape.columns + x → IsInLine p line x n
in-line p line x n few within is =
    let s = p.shape in
    let some = some_rows s in
    let row = line % s.rows in
    let layer = line / s.rows in
    let q : Cell = record { x = x; y = row; layer = layer } in
    let inside : IsInside s q = record { column = within; row = mod_below line s.rows some; layer = div_below line s.rows s.layers some (omega (arith, few)) } in
    let whole : layer * s.rows + row ≡ line = div-add-mod' line s.rows in
    let number : number_of s q ≡ n = ap (λ (l : ℕ). l * s.columns + x) whole ∙ sym is in
    let out : Cell → ℕ = λ c. number_of p.grid (out_of p.window c) in
    let P : ℕ → Type 0 = λ m. IsInLine p line x m in
    let place = place-number s q inside in
    subst P number (record { inside = number-below s q inside; place = place; cell = ap out place ∙ omega arith })

-- a line lies in the window
pub line-ends : (p : Pane) (line : ℕ) → line < p.shape.rows * p.shape.layers → line * p.shape.columns + p.shape.columns ≤ size_of p
line-ends p line few =
    let held = in-line p line (p.shape.columns - 1) (line * p.shape.columns + (p.shape.columns - 1)) few (let some = some_columns p.shape in omega (arith, some)) refl in
    let inside = held.inside in
    let some = some_columns p.shape in
    omega (arith, inside, some)

-- the edges of a line
room-of : (p : Pane) (way : Way) (row layer x : ℕ) → x < edges_in_line p way row → IsTrue (has_room p.shape (record { x = x; y = row; layer = layer }) way)
room-of p East row layer x few = let h : x + 1 < p.shape.columns = omega arith in grind (arith, nat_tests)
room-of p North row layer x few =
    elim (cases_Bool (nat_lt (row + 1) p.shape.rows)) [
      | inl more ↦ more
      | inr last ↦ let none = ap (λ b. if b then p.shape.columns else 0) last in absurd (omega (arith, none))
    ]
room-of p Up row layer x few = absurd (omega arith)

pub few-edges : (p : Pane) (way : Way) (row : ℕ) → edges_in_line p way row ≤ p.shape.columns
few-edges p East row = omega arith
few-edges p North row =
    elim (cases_Bool (nat_lt (row + 1) p.shape.rows)) [
      | inl more ↦ let all = ap (λ b. if b then p.shape.columns else 0) more in omega (arith, all)
      | inr last ↦ let none = ap (λ b. if b then p.shape.columns else 0) last in omega (arith, none)
    ]
few-edges p Up row = omega arith

counted : (p : Pane) (way : Way) (row layer x : ℕ) → IsTrue (has_room p.shape (record { x = x; y = row; layer = layer }) way) → x < p.shape.columns →
    IsTrue (is_wire_way way) → x < edges_in_line p way row
counted p East row layer x room within wire = let h : x + 1 < p.shape.columns = grind (arith, nat_tests) in omega arith
counted p North row layer x room within wire = let all = ap (λ b. if b then p.shape.columns else 0) room in omega (arith, all)
counted p Up row layer x room within wire = absurd (both_ways true (sym wire) refl)

line-edges : (p : Pane) (way : Way) (line low count : ℕ) → line < p.shape.rows * p.shape.layers →
    low ≡ number_of p.grid (record { x = p.window.x0; y = p.window.y0 + line % p.shape.rows; layer = line / p.shape.rows }) →
    count ≡ edges_in_line p way (line % p.shape.rows) → (place : ℕ) → place < count → IsTrue (has_edge p.grid (edge_at (low + place) way))
line-edges p way line low count few low_is count_is place below =
    let within = few-edges p way (line % p.shape.rows) in
    let held = in-line p line place (line * p.shape.columns + place) few (omega (arith, within, count_is)) refl in
    let room = room-of p way (line % p.shape.rows) (line / p.shape.rows) place (omega (arith, count_is)) in
    let P : Cell → Type 0 = λ q. IsTrue (has_room p.shape q way) in
    let next = next-ahead p (line * p.shape.columns + place) way held.inside (subst P (sym held.place) room) in
    let Q : ℕ → Type 0 = λ c. IsTrue (has_edge p.grid (edge_at c way)) in
    let same : cell_in p (line * p.shape.columns + place) ≡ low + place = let h = held.cell in omega (arith, h, low_is) in
    subst Q same next.edge

-- they lie on one layer
line-layer : (p : Pane) (line low place : ℕ) → line < p.shape.rows * p.shape.layers → place < p.shape.columns →
    low ≡ number_of p.grid (record { x = p.window.x0; y = p.window.y0 + line % p.shape.rows; layer = line / p.shape.rows }) →
    (place_at p.grid (low + place)).layer ≡ line / p.shape.rows
line-layer p line low place few within low_is =
    let held = in-line p line place (line * p.shape.columns + place) few within refl in
    let same : low + place ≡ cell_in p (line * p.shape.columns + place) = let h = held.cell in omega (arith, h, low_is) in
    ap (λ (c : ℕ). (place_at p.grid c).layer) same ∙ ap (λ (q : Cell). q.layer) (place-cell p (line * p.shape.columns + place) held.inside)
    ∙ ap (λ (q : Cell). q.layer) held.place

pub line-beside : (p : Pane) (ways : ℕ → Way → Bool) (way : Way) (line low count : ℕ) → IsTrue (is_wire_way way) → line < p.shape.rows * p.shape.layers →
    low ≡ number_of p.grid (record { x = p.window.x0; y = p.window.y0 + line % p.shape.rows; layer = line / p.shape.rows }) →
    count ≡ edges_in_line p way (line % p.shape.rows) → IsTrue (ways (line / p.shape.rows) way) → AreSideBySide p.grid ways (edge_at low way) count
line-beside p ways way line low count wire few low_is count_is goes =
    let some = some_columns p.shape in
    let none : low ≡ low + 0 = omega arith in
    let from : (place_at p.grid low).layer ≡ line / p.shape.rows = ap (λ (c : ℕ). (place_at p.grid c).layer) none ∙ line-layer p line low 0 few some low_is in
    let within = few-edges p way (line % p.shape.rows) in
    record {
      wire = wire;
      goes = subst (λ (l : ℕ). IsTrue (ways l way)) (sym from) goes;
      edges = line-edges p way line low count few low_is count_is;
      level = λ place below. line-layer p line low place few (omega (arith, within, count_is, below)) low_is ∙ sym from;
    }

-- one more line, where its edges are priced
pub line-priced : (p : Pane) (price : Edge → Option ℕ) (way : Way) (line low first count : ℕ) (before after : List ℕ) → IsTrue (is_wire_way way) → line < p.shape.rows * p.shape.layers →
    low ≡ number_of p.grid (record { x = p.window.x0; y = p.window.y0 + line % p.shape.rows; layer = line / p.shape.rows }) →
    first ≡ line * p.shape.columns → count ≡ edges_in_line p way (line % p.shape.rows) → ArePricedTo p price way (line * p.shape.columns) before →
    IsRun price (edge_at low way) first count before after → ArePricedTo p price way ((line + 1) * p.shape.columns) after
line-priced p price way line low first count before after wire few low_is first_is count_is priced run =
    let columns = p.shape.columns in
    let next : (line + 1) * columns ≡ line * columns + columns = omega arith in
    let within = few-edges p way (line % p.shape.rows) in
    record {
      size = run.size ∙ priced.size;
      first = λ n below inside room. elim (cases_lt n (line * columns)) [
        | inl old ↦ run.below n (omega (arith, first_is)) ∙ priced.first n old inside room
        | inr new ↦
            let x = n - line * columns in
            let held = in-line p line x n few (omega (arith, next)) (omega arith) in
            let P : Cell → Type 0 = λ q. IsTrue (has_room p.shape q way) in
            let own = counted p way (line % p.shape.rows) (line / p.shape.rows) x (subst P held.place room) (omega (arith, next)) wire in
            let at : first + x ≡ n = omega (arith, first_is) in
            let cell : low + x ≡ cell_in p n = let h = held.cell in omega (arith, h, low_is) in
            ap (λ (m : ℕ). price_at after m) (sym at) ∙ run.each x (omega (arith, own, count_is)) ∙ ap (λ (c : ℕ). price (edge_at c way)) cell
      ];
      others = λ n above. run.above n (omega (arith, next, within, count_is, first_is)) ∙ priced.others n (omega (arith, next));
    }

-- and where its layer doesn't go the way
unpriced : (g : Shape) (ways : ℕ → Way → Bool) (price : Edge → Option ℕ) (e : Edge) → ArePrices g ways price → IsTrue (has_edge g e) → ways (layer_of g e) e.way ≡ false → price e ≡ None
unpriced g ways price e prices edge none = by-cases (price e) refl
  where
    by-cases : (o : Option ℕ) → price e ≡ o → price e ≡ None
    by-cases None is = is
    by-cases (Some cost) is =
        let some : IsSome (price e) = subst (λ (o : Option ℕ). IsSome o) (sym is) refl in
        absurd (both_ways true (sym ((prices.some e edge).0 some) ∙ none) refl)

pub line-none : (p : Pane) (ways : ℕ → Way → Bool) (price : Edge → Option ℕ) (way : Way) (line : ℕ) (prices : List ℕ) → ArePrices p.grid ways price → line < p.shape.rows * p.shape.layers →
    ways (line / p.shape.rows) way ≡ false → ArePricedTo p price way (line * p.shape.columns) prices → ArePricedTo p price way ((line + 1) * p.shape.columns) prices
line-none p ways price way line prices are few none priced =
    let columns = p.shape.columns in
    let next : (line + 1) * columns ≡ line * columns + columns = omega arith in
    record {
      size = priced.size;
      first = λ n below inside room. elim (cases_lt n (line * columns)) [
        | inl old ↦ priced.first n old inside room
        | inr new ↦
            let held = in-line p line (n - line * columns) n few (omega (arith, next)) (omega arith) in
            let edge = next-ahead p n way inside room in
            let layer : layer_of p.grid (edge_at (cell_in p n) way) ≡ line / p.shape.rows =
            ap (λ (q : Cell). q.layer) (place-cell p n inside) ∙ ap (λ (q : Cell). q.layer) held.place in
            priced.others n (omega arith) ∙ sym (unpriced p.grid ways price (edge_at (cell_in p n) way) are edge.edge (ap (λ (l : ℕ). ways l way) layer ∙ none))
      ];
      others = λ n above. priced.others n (omega (arith, next));
    }

-- all lines
pub lines-priced : (p : Pane) (price : Edge → Option ℕ) (way : Way) (lines : ℕ) (prices : List ℕ) → p.shape.rows * p.shape.layers ≤ lines →
    ArePricedTo p price way (lines * p.shape.columns) prices → IsTable p price way prices
lines-priced p price way lines prices all priced = record {
  size = priced.size;
  each = λ n inside room. priced.first n (let h = few-lines p n lines all inside in h) inside room;
}
  where
    few-lines : (q : Pane) (n count : ℕ) → q.shape.rows * q.shape.layers ≤ count → n < size_of q → n < count * q.shape.columns
    few-lines q n count enough inside = let most = mul-le-mul_right q.shape.columns enough in omega (arith, most, inside)

-- an edge of the window, by its low end's number there
pub edge-there : (p : Pane) (low : ℕ) (edge : Edge) → low < size_of p → edge.low ≡ cell_in p low → IsTrue (has_room p.shape (place_at p.shape low) edge.way) → IsTrue (has_edge p.grid edge)
edge-there p low edge inside low_is room =
    let Q : ℕ → Type 0 = λ c. IsTrue (has_edge p.grid (edge_at c edge.way)) in
    subst Q (sym low_is) (next-ahead p low edge.way inside room).edge

pub table-price : (p : Pane) (price : Edge → Option ℕ) (way : Way) (prices : List ℕ) (low : ℕ) (edge : Edge) (held : Option ℕ) → IsTable p price way prices → low < size_of p →
    edge.low ≡ cell_in p low → edge.way ≡ way → IsTrue (has_room p.shape (place_at p.shape low) edge.way) → held ≡ price_at prices low → held ≡ price edge
table-price p price way prices low edge held table inside low_is goes room is =
    let P : Way → Type 0 = λ w. IsTrue (has_room p.shape (place_at p.shape low) w) in
    is ∙ table.each low inside (subst P goes room) ∙ ap (λ (c : ℕ). price (edge_at c way)) (sym low_is) ∙ ap (λ (w : Way). price (edge_at edge.low w)) (sym goes)

pub table-most : (p : Pane) (ways : ℕ → Way → Bool) (price : Edge → Option ℕ) (low : ℕ) (edge : Edge) (held : Option ℕ) → ArePrices p.grid ways price → low < size_of p →
    edge.low ≡ cell_in p low → IsTrue (has_room p.shape (place_at p.shape low) edge.way) → held ≡ price edge → IfSome held (λ cost. cost ≤ most_cost)
table-most p ways price low edge held are inside low_is room is =
    subst (λ (o : Option ℕ). IfSome o (λ cost. cost ≤ most_cost)) (sym is) (are.most edge (edge-there p low edge inside low_is room))
