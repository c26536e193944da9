-- A walk of bounded cost leads to each cell of a window.
use Rattle.std.proofs.Common.{◌≡◌, ℕ, suc, zero, ◌⊎◌, ◌+◌, ◌-◌, ◌*◌, ◌<◌, ◌≤◌, inl, inr, Bool, true, Option, Some, None, IsSome, IsTrue, refl, sym, ap, subst, ◌∙◌, arith}
use Rattle.std.proofs.lemmas.Bool.{cases_lt, both_ways}
use Rattle.cost_rules.specs.Prices.{layer_of, ArePrices}
use Rattle.gr_base.specs.declared.grid.Cell.{Cell}
use Rattle.gr_base.specs.declared.grid.Edge.{Edge}
use Rattle.gr_base.specs.declared.grid.Shape.{Shape}
use Rattle.gr_base.specs.declared.grid.Way.{Way}
use Rattle.gr_base.specs.declared.grid.Way.TheVariants.{East, North, Up}
use Rattle.gr_base.specs.Grid.{number_of, place_at, IsInside, beyond, edge_at}
use Rattle.gr_base.specs.Trees.{TreeView}
use Rattle.gr_base.proofs.GridLemmas.{number-place, place-inside, place-number, number-below, same_cell}
use Rattle.maze_route.specs.Search.{most_distance}
use Rattle.maze_route.specs.Steps.{size_of, cell_in, pane_graph}
use Rattle.maze_route.specs.Walks.{Graph, Reaches, Starts, Goes_on}
use Rattle.maze_route.specs.Windows.{IsPassable, SomeLayerGoes}
use Rattle.maze_route.specs.declared.pane.Pane.{Pane}
use Rattle.maze_route.proofs.PaneLemmas.{place-cell}
use Rattle.maze_route.proofs.SpotLemmas.{few-each}
use Rattle.maze_route.proofs.StepLemmas.{next-by, step-ahead, step-behind, at-some}

-- from one cell a walk goes on to the other at this cost at most
abbrev Link : Graph → ℕ → ℕ → ℕ → Type 0
Link graph u v most = (cost : ℕ) → Reaches graph u cost → (d : ℕ) × (Reaches graph v d × (d ≤ cost + most))

link-none : (graph : Graph) (u v most : ℕ) → u ≡ v → Link graph u v most
link-none graph u v most same = λ cost walk. let P : ℕ → Type 0 = λ n. Reaches graph n cost in (cost, (subst P same walk, omega arith))

link-step : (graph : Graph) (u v k : ℕ) → graph.step u v ≡ Some k → k ≤ 1048576 → Link graph u v 1048576
link-step graph u v k taken small = λ cost walk. (cost + k, (Goes_on walk taken, omega arith))

link-more : (graph : Graph) (u v w first second both : ℕ) → Link graph u v first → Link graph v w second → first + second ≤ both → Link graph u w both
link-more graph u v w first second both one two sum = λ cost walk.
    let a = one cost walk in
    let b = two a.0 a.1.0 in
    let x = a.1.1 in
    let y = b.1.1 in
    (b.0, (b.1.0, omega arith))

some-price : (o : Option ℕ) → IsSome o → (k : ℕ) × (o ≡ Some k)
some-price None h = absurd (both_ways true (sym h) refl)
some-price (Some k) h = (k, refl)

-- between a place and the one beyond it, where the layer goes that way
link-both : (p : Pane) (t : TreeView) (ways : ℕ → Way → Bool) (price : Edge → Option ℕ) (q r : Cell) (way : Way) → ArePrices p.grid ways price → IsTrue (ways q.layer way) →
    IsInside p.shape q → IsInside p.shape r → r ≡ beyond q way →
    (Link (pane_graph p t price) (number_of p.shape q) (number_of p.shape r) 1048576) × (Link (pane_graph p t price) (number_of p.shape r) (number_of p.shape q) 1048576)
link-both p t ways price q r way prices goes q_in r_in is =
    let s = p.shape in
    let n = number_of s q in
    let m = number_of s r in
    let n_in : n < size_of p = number-below s q q_in in
    let m_in : m < size_of p = number-below s r r_in in
    let onward : Cell → Cell = λ c. beyond c way in
    let place : place_at s m ≡ beyond (place_at s n) way = place-number s r r_in ∙ is ∙ ap onward (sym (place-number s q q_in)) in
    let next = next-by p n m way n_in m_in place in
    let e = edge_at (cell_in p n) way in
    let layer : layer_of p.grid e ≡ q.layer = ap (λ (c : Cell). c.layer) (place-cell p n n_in) ∙ ap (λ (c : Cell). c.layer) (place-number s q q_in) in
    let open_way : IsTrue (ways (layer_of p.grid e) way) = ap (λ (l : ℕ). ways l way) layer ∙ goes in
    let found = some-price (price e) ((prices.some e next.edge).1 open_way) in
    let small = at-some (price e) found.0 (λ cost. cost ≤ 1048576) found.1 (prices.most e next.edge) in (
      link-step (pane_graph p t price) n m found.0 (step-ahead p price n m way next ∙ found.1) small,
      link-step (pane_graph p t price) m n found.0 (step-behind p price n m way next ∙ found.1) small,
    )

-- so many places along a way
abbrev far : ℕ → Cell → Way → Cell
far n q East = record { x = q.x + n; y = q.y; layer = q.layer }
far n q North = record { x = q.x; y = q.y + n; layer = q.layer }
far n q Up = record { x = q.x; y = q.y; layer = q.layer + n }

far-more : (n : ℕ) (q : Cell) (way : Way) → far (suc n) q way ≡ beyond (far n q way) way
far-more n q East = same_cell (far (suc n) q East) (beyond (far n q East) East) (omega arith) refl refl
far-more n q North = same_cell (far (suc n) q North) (beyond (far n q North) North) refl (omega arith) refl
far-more n q Up = same_cell (far (suc n) q Up) (beyond (far n q Up) Up) refl refl (omega arith)

far-none : (q : Cell) (way : Way) → far 0 q way ≡ q
far-none q East = same_cell (far 0 q East) q (omega arith) refl refl
far-none q North = same_cell (far 0 q North) q refl (omega arith) refl
far-none q Up = same_cell (far 0 q Up) q refl refl (omega arith)

far-inside : (s : Shape) (n : ℕ) (q : Cell) (way : Way) → IsInside s (far (suc n) q way) → IsInside s (far n q way)
far-inside s n q East inside = record { column = omega (arith, inside.column); row = inside.row; layer = inside.layer }
far-inside s n q North inside = record { column = inside.column; row = omega (arith, inside.row); layer = inside.layer }
far-inside s n q Up inside = record { column = inside.column; row = inside.row; layer = omega (arith, inside.layer) }

-- on every layer that the way passes, wires go that way
goes-far : (ways : ℕ → Way → Bool) (n : ℕ) (q : Cell) (way : Way) → ((layer : ℕ) → IsTrue (ways layer Up)) → IsTrue (ways q.layer way) → IsTrue (ways (far n q way).layer way)
goes-far ways n q East up goes = goes
goes-far ways n q North up goes = goes
goes-far ways n q Up up goes = up (q.layer + n)

link-far : (p : Pane) (t : TreeView) (ways : ℕ → Way → Bool) (price : Edge → Option ℕ) (n : ℕ) (q : Cell) (way : Way) → ArePrices p.grid ways price → IsTrue (ways q.layer way) →
    IsInside p.shape (far n q way) →
    (Link (pane_graph p t price) (number_of p.shape q) (number_of p.shape (far n q way)) (n * 1048576)) × (Link (pane_graph p t price) (number_of p.shape (far n q way)) (number_of p.shape q) (n * 1048576))
link-far p t ways price zero q way prices goes inside =
    let same = ap (λ (c : Cell). number_of p.shape c) (far-none q way) in
    (link-none (pane_graph p t price) (number_of p.shape q) (number_of p.shape (far 0 q way)) (0 * 1048576) (sym same), link-none (pane_graph p t price) (number_of p.shape (far 0 q way)) (number_of p.shape q) (0 * 1048576) same)
link-far p t ways price (suc n) q way prices goes inside =
    let graph = pane_graph p t price in
    let near_in = far-inside p.shape n q way inside in
    let near = link-far p t ways price n q way prices goes near_in in
    let last = link-both p t ways price (far n q way) (far (suc n) q way) way prices (goes-far ways n q way prices.up goes) near_in inside (far-more n q way) in
    let a = number_of p.shape q in
    let b = number_of p.shape (far n q way) in
    let c = number_of p.shape (far (suc n) q way) in (
      link-more graph a b c (n * 1048576) 1048576 (suc n * 1048576) near.0 last.0 (omega arith),
      link-more graph c b a 1048576 (n * 1048576) (suc n * 1048576) last.1 near.1 (omega arith),
    )

-- a whole line is short
abbrev line_cost : ℕ
line_cost = 8796093022208

link-line : (p : Pane) (t : TreeView) (ways : ℕ → Way → Bool) (price : Edge → Option ℕ) (n : ℕ) (q r : Cell) (way : Way) → ArePrices p.grid ways price → IsTrue (ways q.layer way) →
    IsInside p.shape r → r ≡ far n q way → n < 8388608 →
    (Link (pane_graph p t price) (number_of p.shape q) (number_of p.shape r) line_cost) × (Link (pane_graph p t price) (number_of p.shape r) (number_of p.shape q) line_cost)
link-line p t ways price n q r way prices goes inside is short =
    let P : Cell → Type 0 = λ c. IsInside p.shape c in
    let graph = pane_graph p t price in
    let links = link-far p t ways price n q way prices goes (subst P is inside) in
    let same = ap (λ (c : Cell). number_of p.shape c) is in
    let a = number_of p.shape q in
    let b = number_of p.shape (far n q way) in
    let c = number_of p.shape r in (
      link-more graph a b c (n * 1048576) 0 line_cost links.0 (link-none graph b c 0 (sym same)) (omega arith),
      link-more graph c b a 0 (n * 1048576) line_cost (link-none graph c b 0 same) links.1 (omega arith),
    )

abbrev at : ℕ → ℕ → ℕ → Cell
at x y layer = record { x = x; y = y; layer = layer }

-- the place's number along a way, and the place with another one
abbrev number_on : Cell → Way → ℕ
number_on q East = q.x
number_on q North = q.y
number_on q Up = q.layer

abbrev along : Cell → ℕ → Way → Cell
along q to East = at to q.y q.layer
along q to North = at q.x to q.layer
along q to Up = at q.x q.y to

along-far : (q : Cell) (to : ℕ) (way : Way) → number_on q way ≤ to → along q to way ≡ far (to - number_on q way) q way
along-far q to East more = same_cell (along q to East) (far (to - q.x) q East) (omega arith) refl refl
along-far q to North more = same_cell (along q to North) (far (to - q.y) q North) refl (omega arith) refl
along-far q to Up more = same_cell (along q to Up) (far (to - q.layer) q Up) refl refl (omega arith)

far-along : (q : Cell) (to : ℕ) (way : Way) → to ≤ number_on q way → q ≡ far (number_on q way - to) (along q to way) way
far-along q to East less = same_cell q (far (q.x - to) (along q to East) East) (omega arith) refl refl
far-along q to North less = same_cell q (far (q.y - to) (along q to North) North) refl (omega arith) refl
far-along q to Up less = same_cell q (far (q.layer - to) (along q to Up) Up) refl refl (omega arith)

few-along : (s : Shape) (q : Cell) (to : ℕ) (way : Way) → IsInside s q → IsInside s (along q to way) → (number_on q way < 8388608) × (to < 8388608)
few-along s q to East inside to_in = ((few-each s q inside).0, (few-each s (along q to East) to_in).0)
few-along s q to North inside to_in = ((few-each s q inside).1.0, (few-each s (along q to North) to_in).1.0)
few-along s q to Up inside to_in = ((few-each s q inside).1.1, (few-each s (along q to Up) to_in).1.1)

-- along a row, along a column, or up or down
move : (p : Pane) (t : TreeView) (ways : ℕ → Way → Bool) (price : Edge → Option ℕ) (q : Cell) (to : ℕ) (way : Way) → ArePrices p.grid ways price → IsTrue (ways q.layer way) →
    IsTrue (ways (along q to way).layer way) → IsInside p.shape q → IsInside p.shape (along q to way) →
    Link (pane_graph p t price) (number_of p.shape q) (number_of p.shape (along q to way)) line_cost
move p t ways price q to way prices goes goes_to q_in r_in =
    let few = few-along p.shape q to way q_in r_in in
    let own = few.0 in
    let other = few.1 in
    elim (cases_lt (number_on q way) to) [
      | inl less ↦ (link-line p t ways price (to - number_on q way) q (along q to way) way prices goes r_in (along-far q to way (omega arith)) (omega arith)).0
      | inr more ↦ (link-line p t ways price (number_on q way - to) (along q to way) q way prices goes_to q_in (far-along q to way more) (omega arith)).1
    ]

-- the place on another level, and with another number along the way
abbrev beyond_level : Cell → ℕ → ℕ → Way → Cell
beyond_level q level to way = along (along q level Up) to way

-- up or down to a level that goes the way, and then along it, or nowhere where the place is the same
to-tile : (p : Pane) (t : TreeView) (ways : ℕ → Way → Bool) (price : Edge → Option ℕ) (q : Cell) (to : ℕ) (way : Way) → ArePrices p.grid ways price → IsInside p.shape q →
    ((level : ℕ) → level < p.shape.layers → IsInside p.shape (beyond_level q level to way)) → ((level : ℕ) → (beyond_level q level to way).layer ≡ level) →
    SomeLayerGoes p.grid ways way ⊎ (beyond_level q q.layer to way ≡ q) →
    (level : ℕ) × (IsInside p.shape (beyond_level q level to way) × Link (pane_graph p t price) (number_of p.shape q) (number_of p.shape (beyond_level q level to way)) (2 * line_cost))
to-tile p t ways price q to way prices q_in inside stays (inl goes) =
    let level = goes.layer in
    let fits = p.fits in
    let below : level < p.shape.layers = omega (arith, goes.inside, fits.layers) in
    let level_in : IsInside p.shape (along q level Up) = record { column = q_in.column; row = q_in.row; layer = below } in
    let goes_to : IsTrue (ways (beyond_level q level to way).layer way) = ap (λ (n : ℕ). ways n way) (stays level) ∙ goes.goes in
    let up = move p t ways price q level Up prices (prices.up q.layer) (prices.up level) q_in level_in in
    let on = move p t ways price (along q level Up) to way prices goes.goes goes_to level_in (inside level below) in (
      level,
      (
        inside level below,
        link-more (pane_graph p t price) (number_of p.shape q) (number_of p.shape (along q level Up)) (number_of p.shape (beyond_level q level to way)) line_cost line_cost (2 * line_cost) up on (omega arith),
      ),
    )
to-tile p t ways price q to way prices q_in inside stays (inr same) =
    let P : Cell → Type 0 = λ c. IsInside p.shape c in
    let number = ap (λ (c : Cell). number_of p.shape c) (sym same) in
    (q.layer, (subst P (sym same) q_in, link-none (pane_graph p t price) (number_of p.shape q) (number_of p.shape (beyond_level q q.layer to way)) (2 * line_cost) number))

-- another tile of the row or the column is there only where the window is more than one tile wide or high
to-column : (p : Pane) (ways : ℕ → Way → Bool) (q : Cell) (to : ℕ) → IsPassable p.grid ways p.window → IsInside p.shape q → to < p.shape.columns →
    SomeLayerGoes p.grid ways East ⊎ (beyond_level q q.layer to East ≡ q)
to-column p ways q to passable q_in column = elim (cases_lt p.window.x0 p.window.x1) [
  | inl wide ↦ inl (passable.east wide)
  | inr narrow ↦ inr (same_cell (beyond_level q q.layer to East) q (omega (arith, p.fits.columns, q_in.column)) refl refl)
]

to-row : (p : Pane) (ways : ℕ → Way → Bool) (q : Cell) (to : ℕ) → IsPassable p.grid ways p.window → IsInside p.shape q → to < p.shape.rows →
    SomeLayerGoes p.grid ways North ⊎ (beyond_level q q.layer to North ≡ q)
to-row p ways q to passable q_in row = elim (cases_lt p.window.y0 p.window.y1) [
  | inl tall ↦ inl (passable.north tall)
  | inr flat ↦ inr (same_cell (beyond_level q q.layer to North) q refl (omega (arith, p.fits.rows, q_in.row)) refl)
]

-- from a source a walk of bounded cost leads to each cell of the window
pub reach-cell : (p : Pane) (t : TreeView) (ways : ℕ → Way → Bool) (price : Edge → Option ℕ) (m n : ℕ) → ArePrices p.grid ways price → IsPassable p.grid ways p.window →
    m < size_of p → n < size_of p → IsTrue ((pane_graph p t price).source m) → (d : ℕ) × (Reaches (pane_graph p t price) n d × (d ≤ most_distance))
reach-cell p t ways price m n prices passable m_in n_in source =
    let graph = pane_graph p t price in
    let s = p.shape in
    let q = place_at s m in
    let r = place_at s n in
    let q_in = place-inside s m m_in in
    let r_in = place-inside s n n_in in
    let one = to-tile p t ways price q r.x East prices q_in (λ level below. record { column = r_in.column; row = q_in.row; layer = below }) (λ level. refl) (to-column p ways q r.x passable q_in r_in.column) in
    let two = to-tile p t ways price (at r.x q.y one.0) r.y North prices one.1.0 (λ level below. record { column = r_in.column; row = r_in.row; layer = below }) (λ level. refl)
    (to-row p ways (at r.x q.y one.0) r.y passable one.1.0 r_in.row) in
    let three = move p t ways price (at r.x r.y two.0) r.layer Up prices (prices.up two.0) (prices.up r.layer) two.1.0 r_in in
    let a = number_of s (at q.x q.y q.layer) in
    let b = number_of s (at r.x q.y one.0) in
    let c = number_of s (at r.x r.y two.0) in
    let e = number_of s (at r.x r.y r.layer) in
    let whole = link-more graph a c e (4 * line_cost) line_cost (5 * line_cost) (link-more graph a b c (2 * line_cost) (2 * line_cost) (4 * line_cost) one.1.1 two.1.1 (omega arith)) three (omega arith) in
    let P : ℕ → Type 0 = λ k. Reaches graph k 0 in
    let end = whole 0 (subst P (sym (number-place s m)) (Starts source)) in
    let few = end.1.1 in
    let Q1 : ℕ → Type 0 = λ k. Reaches graph k end.0 in
    (end.0, (subst Q1 (number-place s n) end.1.0, omega arith))
