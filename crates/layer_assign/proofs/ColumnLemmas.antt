-- The cells of a tile are hung one over another.
use Rattle.std.proofs.Common.{◌≡◌, ℕ, ◌+◌, ◌*◌, ◌/◌, ◌%◌, ◌<◌, ◌≤◌, inl, inr, Bool, true, false, ◌&&◌, ◌||◌, ◌==◌, nat_lt, nat_le, List, [], ◌∷◌, ◌++◌, length, Option, Some, None, is_some, Result, Ok, Err, OnOk, refl, sym, ap, subst, ◌∙◌, arith}
use Rattle.std.proofs.lemmas.Bool.{cases_Bool, cases_eq, eqb-true, eq-eqb, both_ways}
use Rattle.std.proofs.lemmas.Bool.Decides.{nat_tests}
use Rattle.std.proofs.lemmas.List.{append-nil, append_assoc}
use Rattle.std.proofs.lemmas.Nat.{div-add-mod', mod_below, div_below}
use Rattle.std.specs.Option.{option_to_list}
use Rattle.gr_base.specs.Grid.{cells_of, number_of, place_at, AreNeighbours, edge_at, edge_of, steps_between}
use Rattle.gr_base.specs.EdgeSets.{is_way, is_edge, set_of}
use Rattle.gr_base.specs.Trees.{TreeView, cell_at, node_with, holds, edges_of, walk_edges, IsTree, IsWalkTo, Begins, AddsCells, AddsEdges}
use Rattle.gr_base.specs.declared.grid.Cell.{Cell}
use Rattle.gr_base.specs.declared.grid.Edge.{Edge}
use Rattle.gr_base.specs.declared.grid.Shape.{Shape}
use Rattle.gr_base.specs.declared.grid.Way.TheVariants.{Up}
use Rattle.gr_base.specs.declared.tree.Node.{Node}
use Rattle.gr_base.proofs.GridLemmas.{edge-beyond, place-number, some_columns}
use Rattle.gr_base.proofs.TreeLemmas.{some_from, node_with-at, cell_at-within, cell_at-append, cell-only, read-cell}
use Rattle.gr_base.proofs.TreeEdges.{edge_of-swap}
use Rattle.layer_assign.specs.declared.span.Span.{Span}
use Rattle.layer_assign.specs.Assignments.{tile_count, tile_of, level_of, cell_on}
use Rattle.layer_assign.specs.Raised.{in_column, is_via_of, Grows}
use Rattle.layer_assign.specs.Raising.{IsEarly}
use Rattle.layer_assign.proofs.FlatLemmas.{tile-on, level-on, node-at}

pub iff : (b c : Bool) → (b ≡ true → c ≡ true) → (c ≡ true → b ≡ true) → b ≡ c
iff true true to from = refl
iff true false to from = absurd (both_ways false refl (to refl))
iff false true to from = absurd (both_ways false refl (from refl))
iff false false to from = refl

pub or_assoc : (a b c : Bool) → ((a || b) || c) ≡ (a || (b || c))
or_assoc true b c = refl
or_assoc false b c = refl

pub on_ok : {X E : Type 0} (r : Result X E) (P Q R : Type 0) → OnOk r P → OnOk r Q → (P → Q → R) → OnOk r R
on_ok (Ok x) P Q R p q follows = follows p q
on_ok (Err e) P Q R p q follows = tt

pub on_ok-one : {X E : Type 0} (r : Result X E) (P R : Type 0) → OnOk r P → (P → R) → OnOk r R
on_ok-one (Ok x) P R p follows = follows p
on_ok-one (Err e) P R p follows = tt

-- the columns of one layer and of two parts
level_join : (p : Bool) (x a b d : ℕ) → a ≤ b → b ≤ d → ((p && nat_le a x && nat_lt x b) || (p && nat_le b x && nat_lt x d)) ≡ (p && nat_le a x && nat_lt x d)
level_join false x a b d first second = refl
level_join true x a b d first second = grind (arith, nat_tests)

pub column-join : (g : Shape) (tile a b d cell : ℕ) → a ≤ b → b ≤ d → (in_column g tile a b cell || in_column g tile b d cell) ≡ in_column g tile a d cell
column-join g tile a b d cell first second = level_join (tile_of g cell == tile) (level_of g cell) a b d first second

and_true : (p q r : Bool) → (p && q && r) ≡ true → (p ≡ true) × ((q ≡ true) × (r ≡ true))
and_true true true true is = (refl, (refl, refl))
and_true true true false is = absurd (both_ways false refl is)
and_true true false r is = absurd (both_ways false refl is)
and_true false q r is = absurd (both_ways false refl is)

true_and : (p q r : Bool) → p ≡ true → q ≡ true → r ≡ true → (p && q && r) ≡ true
true_and p q r first second third = rw (first, second, third) refl

-- what it says that a cell is in a column
pub column-parts : (g : Shape) (tile from end cell : ℕ) → in_column g tile from end cell ≡ true → (tile_of g cell ≡ tile) × ((from ≤ level_of g cell) × (level_of g cell < end))
column-parts g tile from end cell is =
    let parts = and_true (tile_of g cell == tile) (nat_le from (level_of g cell)) (nat_lt (level_of g cell) end) is in
    let le = parts.1.0 in
    let lt = parts.1.1 in
    (eqb-true (tile_of g cell) tile parts.0, (grind (arith, nat_tests), grind (arith, nat_tests)))

pub in-column : (g : Shape) (tile from end cell : ℕ) → tile_of g cell ≡ tile → from ≤ level_of g cell → level_of g cell < end → in_column g tile from end cell ≡ true
in-column g tile from end cell is le lt =
    true_and (tile_of g cell == tile) (nat_le from (level_of g cell)) (nat_lt (level_of g cell) end) (eq-eqb (tile_of g cell) tile is) (grind (arith, nat_tests)) (grind (arith, nat_tests))

-- a cell is the one of its tile on its layer
pub cell-over : (g : Shape) (cell : ℕ) → cell_on g (tile_of g cell) (level_of g cell) ≡ cell
cell-over g cell = div-add-mod' cell (tile_count g)

pub column-one : (g : Shape) (tile layer cell : ℕ) → tile < tile_count g → (cell_on g tile layer == cell) ≡ in_column g tile layer (layer + 1) cell
column-one g tile layer cell below =
    iff (cell_on g tile layer == cell) (in_column g tile layer (layer + 1) cell)
    (λ is.
    let same : cell_on g tile layer ≡ cell = eqb-true (cell_on g tile layer) cell is in
    let level : level_of g cell ≡ layer = ap (λ (c : ℕ). level_of g c) (sym same) ∙ level-on g tile layer below in
    in-column g tile layer (layer + 1) cell (ap (λ (c : ℕ). tile_of g c) (sym same) ∙ tile-on g tile layer below) (omega arith) (omega arith))
    (λ is.
    let parts = column-parts g tile layer (layer + 1) cell is in
    let level : layer ≡ level_of g cell = let le = parts.1.0 in let lt = parts.1.1 in omega arith in
    eq-eqb (cell_on g tile layer) cell
    (ap (λ (l : ℕ). cell_on g tile l) level ∙ ap (λ (k : ℕ). cell_on g k (level_of g cell)) (sym parts.0) ∙ cell-over g cell))

-- the place of a tile's cell on a layer
pub place-tile : (g : Shape) (tile layer : ℕ) → tile < tile_count g → layer < g.layers →
    place_at g (cell_on g tile layer) ≡ record { x = tile % g.columns; y = tile / g.columns; layer = layer }
place-tile g tile layer below inside =
    let cell : Cell = record { x = tile % g.columns; y = tile / g.columns; layer = layer } in
    let row : tile / g.columns < g.rows = div_below tile g.columns g.rows (some_columns g) (omega arith) in
    let split = div-add-mod' tile g.columns in
    let number : number_of g cell ≡ cell_on g tile layer = plain (tile / g.columns) (tile % g.columns) split in
    subst (λ (n : ℕ). place_at g n ≡ cell) number (place-number g cell (record { column = mod_below tile g.columns (some_columns g); row = row; layer = inside }))
  where
    plain : (q r : ℕ) → q * g.columns + r ≡ tile → (layer * g.rows + q) * g.columns + r ≡ cell_on g tile layer
    plain q r is = omega (arith, is)

-- the edge between two cells of a tile, one over the other
pub up-edge : (g : Shape) (tile layer : ℕ) → tile < tile_count g → layer + 1 < g.layers →
    edge_of g (cell_on g tile layer) (cell_on g tile (layer + 1)) ≡ Some (edge_at (cell_on g tile layer) Up)
up-edge g tile layer inside below =
    let low = place-tile g tile layer inside (omega arith) in
    let high = place-tile g tile (layer + 1) inside below in
    edge-beyond g (cell_on g tile layer) (cell_on g tile (layer + 1)) Up
    (high ∙ ap (λ (cell : Cell). record { x = cell.x; y = cell.y; layer = cell.layer + 1 }) (sym low)) (omega arith)

pub down-edge : (g : Shape) (tile layer : ℕ) → tile < tile_count g → layer + 1 < g.layers →
    edge_of g (cell_on g tile (layer + 1)) (cell_on g tile layer) ≡ Some (edge_at (cell_on g tile layer) Up)
down-edge g tile layer inside below = edge_of-swap g (cell_on g tile (layer + 1)) (cell_on g tile layer) ∙ up-edge g tile layer inside below

-- neighbours are those with an edge between them
pub near-edge : (g : Shape) (a b : ℕ) (e : Edge) → edge_of g a b ≡ Some e → AreNeighbours g a b
near-edge g a b e is =
    elim (cases_eq (steps_between g a b) 1) [
      | inl one ↦ one
      | inr other ↦
          let test : (steps_between g a b == 1) ≡ false = grind (arith, nat_tests) in
          let none : edge_of g a b ≡ None = rw test refl in
          absurd (some_none e (sym none ∙ is))
    ]
  where
    some_none : (f : Edge) → None ≡ Some f → ⊥
    some_none f is = cc

-- the edges of a walk of one step
pub one_step : (g : Shape) (a b : ℕ) (f e : Edge) → edge_of g a b ≡ Some f → set_of (walk_edges g (a ∷ b ∷ [])) e ≡ is_edge e f
one_step g a b f e is =
    ap (λ (o : Option Edge). set_of (option_to_list o ++ []) e) is ∙ or_none (is_edge e f)
  where
    or_none : (p : Bool) → (p || false) ≡ p
    or_none true = refl
    or_none false = refl

-- growth
pub grows-none : (t : TreeView) (cells : ℕ → Bool) (edges : Edge → Bool) → ((c : ℕ) → cells c ≡ false) → ((e : Edge) → edges e ≡ false) → Grows t t cells edges
grows-none t cells edges none no_edges = record {
  shape = refl;
  first = refl;
  cells_are = λ c. same (holds t c) (cells c) (none c);
  edges_are = λ e. same (edges_of t e) (edges e) (no_edges e);
  added = [];
  nodes = sym (append-nil t.nodes);
}
  where
    same : (p q : Bool) → q ≡ false → p ≡ (p || q)
    same true q is = refl
    same false q is = sym is

pub grows-then : (a b d : TreeView) (first second cells : ℕ → Bool) (one two edges : Edge → Bool) → Grows a b first one → Grows b d second two →
    ((c : ℕ) → (first c || second c) ≡ cells c) → ((e : Edge) → (one e || two e) ≡ edges e) → Grows a d cells edges
grows-then a b d first second cells one two edges before after cells_join edges_join = record {
  shape = after.shape ∙ before.shape;
  first = after.first ∙ before.first;
  cells_are = λ c.
      after.cells_are c ∙ ap (λ (p : Bool). p || second c) (before.cells_are c) ∙ or_assoc (holds a c) (first c) (second c)
      ∙ ap (λ (p : Bool). holds a c || p) (cells_join c);
  edges_are = λ e.
      after.edges_are e ∙ ap (λ (p : Bool). p || two e) (before.edges_are e) ∙ or_assoc (edges_of a e) (one e) (two e)
      ∙ ap (λ (p : Bool). edges_of a e || p) (edges_join e);
  added = before.added ++ after.added;
  nodes = after.nodes ∙ ap (λ (ns : List Node). ns ++ after.added) before.nodes ∙ append_assoc a.nodes before.added after.added;
}

-- a tree that holds a cell has a first node
first_kept : (old new : TreeView) (cell : ℕ) → is_some (node_with old.nodes cell) ≡ true → Begins old new → cell_at new.nodes 0 ≡ cell_at old.nodes 0
first_kept old new cell held begins =
    let found = some_from (node_with old.nodes cell) held in
    let within = cell_at-within old.nodes found.0 cell (node_with-at old.nodes cell found.0 found.1) in
    let at = node-at old.nodes 0 (omega arith) in
    let root = read-cell old.nodes 0 at.0 at.1 in
    ap (λ (ns : List Node). cell_at ns 0) begins.nodes ∙ cell_at-append old.nodes begins.added 0 at.0.cell root ∙ sym root

-- each cell of a tree is among its nodes, and those among the first so many are cells of it
pub held-early : (t : TreeView) (cell count : ℕ) → holds t cell ≡ true → count ≡ length t.nodes → IsEarly t count cell
held-early t cell count held is =
    let found = some_from (node_with t.nodes cell) held in
    let at = node_with-at t.nodes cell found.0 found.1 in
    let within = cell_at-within t.nodes found.0 cell at in
    record { node = found.0; before = omega arith; cell_is = at }

pub early-held : (t : TreeView) (cell count : ℕ) → IsTree t → IsEarly t count cell → holds t cell ≡ true
early-held t cell count tree early = ap (λ (o : Option ℕ). is_some o) (cell-only t.shape t.nodes early.node cell tree.hanging early.cell_is)

-- a new cell and a neighbour in the tree are a walk to it
pub walk-one : (t : TreeView) (cell on : ℕ) → cell < cells_of t.shape → holds t cell ≡ false → holds t on ≡ true → AreNeighbours t.shape cell on → IsWalkTo t (cell ∷ on ∷ [])
walk-one t cell on inside outside held near = (
  record {
    inside = inside;
    outside = outside;
    once = elim (cases_Bool (on == cell)) [
      | inl same ↦ absurd (both_ways _ outside (ap (λ (c : ℕ). holds t c) (sym (eqb-true on cell same)) ∙ held))
      | inr apart ↦ rw apart refl
    ];
    neighbours = near;
  },
  held,
)

-- and they stay there
pub early-still : (old now : TreeView) (cells : ℕ → Bool) (edges : Edge → Bool) (count cell : ℕ) → Grows old now cells edges → IsEarly old count cell → IsEarly now count cell
early-still old now cells edges count cell grows early = record {
  node = early.node;
  before = early.before;
  cell_is = ap (λ (ns : List Node). cell_at ns early.node) grows.nodes ∙ cell_at-append old.nodes grows.added early.node cell early.cell_is;
}

-- a walk of one step adds its first cell
pub hung : (old new : TreeView) (cell on : ℕ) → is_some (node_with old.nodes on) ≡ true → Begins old new → AddsCells old (cell ∷ on ∷ []) new → AddsEdges old (cell ∷ on ∷ []) new →
    Grows old new (λ other. cell == other) (set_of (walk_edges old.shape (cell ∷ on ∷ [])))
hung old new cell on held begins cells edges = record {
  shape = begins.shape;
  first = first_kept old new on held begins;
  cells_are = λ other. cells other ∙ only (holds old other) (cell == other) (on == other) (λ same. ap (λ (c : ℕ). holds old c) (sym (eqb-true on other same)) ∙ held);
  edges_are = λ e. edges e;
  added = begins.added;
  nodes = begins.nodes;
}
  where
    only : (h p q : Bool) → (q ≡ true → h ≡ true) → (h || (p || (q || false))) ≡ (h || p)
    only true p q has = refl
    only false true q has = refl
    only false false true has = absurd (both_ways false refl (has refl))
    only false false false has = refl

-- the via edges of a part of a tile
abbrev pub vias : Shape → ℕ → ℕ → ℕ → Edge → Bool
vias g tile from end e = is_way e.way Up && in_column g tile from end e.low

pub vias-join : (g : Shape) (tile a b d : ℕ) (e : Edge) → a ≤ b → b ≤ d → (vias g tile a b e || vias g tile b d e) ≡ vias g tile a d e
vias-join g tile a b d e first second =
    both (is_way e.way Up) (in_column g tile a b e.low) (in_column g tile b d e.low) (in_column g tile a d e.low) (column-join g tile a b d e.low first second)
  where
    both : (w p q r : Bool) → (p || q) ≡ r → ((w && p) || (w && q)) ≡ (w && r)
    both true p q r is = is
    both false p q r is = refl

-- the edge over a tile's cell is the via edge of one layer
pub vias-one : (g : Shape) (tile layer : ℕ) (e : Edge) → tile < tile_count g → is_edge e (edge_at (cell_on g tile layer) Up) ≡ vias g tile layer (layer + 1) e
vias-one g tile layer e below =
    ap (λ (p : Bool). p && is_way e.way Up) (swapped ∙ column-one g tile layer e.low below) ∙ turned (in_column g tile layer (layer + 1) e.low) (is_way e.way Up)
  where
    turned : (p q : Bool) → (p && q) ≡ (q && p)
    turned true true = refl
    turned true false = refl
    turned false true = refl
    turned false false = refl

    swapped : (e.low == cell_on g tile layer) ≡ (cell_on g tile layer == e.low)
    swapped = grind (arith, nat_tests)

-- no cell and no edge is in an empty part
pub column-none : (g : Shape) (tile a cell : ℕ) → in_column g tile a a cell ≡ false
column-none g tile a cell = none (tile_of g cell == tile) (level_of g cell)
  where
    none : (p : Bool) (x : ℕ) → (p && nat_le a x && nat_lt x a) ≡ false
    none true x = grind (arith, nat_tests)
    none false x = refl

pub vias-none : (g : Shape) (tile a : ℕ) (e : Edge) → vias g tile a a e ≡ false
vias-none g tile a e = none (is_way e.way Up) (column-none g tile a e.low)
  where
    none : (w : Bool) → in_column g tile a a e.low ≡ false → (w && in_column g tile a a e.low) ≡ false
    none true is = is
    none false is = refl

pub free_still : (old now : TreeView) (cells : ℕ → Bool) (edges : Edge → Bool) (cell : ℕ) → Grows old now cells edges → holds old cell ≡ false → cells cell ≡ false → holds now cell ≡ false
free_still old now cells edges cell grows free outside = grows.cells_are cell ∙ rw (free, outside) refl

pub held_still : (old now : TreeView) (cells : ℕ → Bool) (edges : Edge → Bool) (cell : ℕ) → Grows old now cells edges → holds old cell ≡ true → holds now cell ≡ true
held_still old now cells edges cell grows held = grows.cells_are cell ∙ rw held refl

pub held_new : (old now : TreeView) (cells : ℕ → Bool) (edges : Edge → Bool) (cell : ℕ) → Grows old now cells edges → cells cell ≡ true → holds now cell ≡ true
held_new old now cells edges cell grows new = grows.cells_are cell ∙ right (holds old cell) (cells cell) new
  where
    right : (p q : Bool) → q ≡ true → (p || q) ≡ true
    right true q is = refl
    right false q is = is

-- a cell of the tile on another layer is in no part without that layer
pub column-out : (g : Shape) (tile from end layer : ℕ) → tile < tile_count g → (from ≤ layer → layer < end → ⊥) → in_column g tile from end (cell_on g tile layer) ≡ false
column-out g tile from end layer below out =
    elim (cases_Bool (in_column g tile from end (cell_on g tile layer))) [
      | inl is ↦
          let parts = column-parts g tile from end (cell_on g tile layer) is in
          let level = level-on g tile layer below in
          absurd (out (let h = parts.1.0 in omega arith) (let h = parts.1.1 in omega arith))
      | inr is ↦ is
    ]

pub column-in : (g : Shape) (tile from end layer : ℕ) → tile < tile_count g → from ≤ layer → layer < end → in_column g tile from end (cell_on g tile layer) ≡ true
column-in g tile from end layer below le lt =
    let level = level-on g tile layer below in
    in-column g tile from end (cell_on g tile layer) (tile-on g tile layer below) (omega arith) (omega arith)

-- the tree after cells of a tile are hung from a layer up to another
abbrev pub Risen : Shape → TreeView → TreeView → ℕ → ℕ → ℕ → Type 0
Risen g old new tile from to = Grows old new (in_column g tile (from + 1) (to + 1)) (vias g tile from to)

pub risen-none : (g : Shape) (t : TreeView) (tile from : ℕ) → Risen g t t tile from from
risen-none g t tile from = grows-none t (in_column g tile (from + 1) (from + 1)) (vias g tile from from) (column-none g tile (from + 1)) (vias-none g tile from)

pub risen-more : (g h : Shape) (old now new : TreeView) (tile from layer up at : ℕ) → tile < tile_count g → layer + 1 < g.layers → from ≤ layer → h ≡ g → up ≡ cell_on g tile (layer + 1) → at ≡ cell_on g tile layer →
    Risen g old now tile from layer → Grows now new (λ other. up == other) (set_of (walk_edges h (up ∷ at ∷ []))) → Risen g old new tile from (layer + 1)
risen-more g h old now new tile from layer up at inside below le shape is on before after =
    grows-then old now new (in_column g tile (from + 1) (layer + 1)) (λ other. up == other) (in_column g tile (from + 1) (layer + 1 + 1))
    (vias g tile from layer) (set_of (walk_edges h (up ∷ at ∷ []))) (vias g tile from (layer + 1)) before after
    (λ c.
    ap (λ (k : ℕ). in_column g tile (from + 1) (layer + 1) c || (k == c)) is
    ∙ ap (λ (p : Bool). in_column g tile (from + 1) (layer + 1) c || p) (column-one g tile (layer + 1) c inside)
    ∙ column-join g tile (from + 1) (layer + 1) (layer + 1 + 1) c (omega arith) (omega arith))
    (λ e.
    ap (λ (p : Bool). vias g tile from layer e || p) (one_step h up at (edge_at (cell_on g tile layer) Up) e edge ∙ vias-one g tile layer e inside)
    ∙ vias-join g tile from layer (layer + 1) e le (omega arith))
  where
    edge : edge_of h up at ≡ Some (edge_at (cell_on g tile layer) Up)
    edge = ap (λ (s : Shape). edge_of s up at) shape ∙ ap (λ (c : ℕ). edge_of g c at) is ∙ ap (λ (c : ℕ). edge_of g (cell_on g tile (layer + 1)) c) on ∙ down-edge g tile layer inside below

-- the tree after cells of a tile are hung from a layer down to another
abbrev pub Sunk : Shape → TreeView → TreeView → ℕ → ℕ → ℕ → Type 0
Sunk g old new tile from to = Grows old new (in_column g tile to from) (vias g tile to from)

pub sunk-none : (g : Shape) (t : TreeView) (tile from : ℕ) → Sunk g t t tile from from
sunk-none g t tile from = grows-none t (in_column g tile from from) (vias g tile from from) (column-none g tile from) (vias-none g tile from)

pub sunk-more : (g h : Shape) (old now new : TreeView) (tile from layer down at : ℕ) → tile < tile_count g → layer + 1 < g.layers → layer + 1 ≤ from → h ≡ g → down ≡ cell_on g tile layer → at ≡ cell_on g tile (layer + 1) →
    Sunk g old now tile from (layer + 1) → Grows now new (λ other. down == other) (set_of (walk_edges h (down ∷ at ∷ []))) → Sunk g old new tile from layer
sunk-more g h old now new tile from layer down at inside below le shape is on before after =
    grows-then old now new (in_column g tile (layer + 1) from) (λ other. down == other) (in_column g tile layer from)
    (vias g tile (layer + 1) from) (set_of (walk_edges h (down ∷ at ∷ []))) (vias g tile layer from) before after
    (λ c.
    ap (λ (k : ℕ). in_column g tile (layer + 1) from c || (k == c)) is
    ∙ ap (λ (p : Bool). in_column g tile (layer + 1) from c || p) (column-one g tile layer c inside)
    ∙ swapped (in_column g tile (layer + 1) from c) (in_column g tile layer (layer + 1) c)
    ∙ column-join g tile layer (layer + 1) from c (omega arith) le)
    (λ e.
    ap (λ (p : Bool). vias g tile (layer + 1) from e || p) (one_step h down at (edge_at (cell_on g tile layer) Up) e edge ∙ vias-one g tile layer e inside)
    ∙ swapped (vias g tile (layer + 1) from e) (vias g tile layer (layer + 1) e)
    ∙ vias-join g tile layer (layer + 1) from e (omega arith) le)
  where
    edge : edge_of h down at ≡ Some (edge_at (cell_on g tile layer) Up)
    edge = ap (λ (s : Shape). edge_of s down at) shape ∙ ap (λ (c : ℕ). edge_of g c at) is ∙ ap (λ (c : ℕ). edge_of g (cell_on g tile layer) c) on ∙ up-edge g tile layer inside below

    swapped : (p q : Bool) → (p || q) ≡ (q || p)
    swapped true true = refl
    swapped true false = refl
    swapped false true = refl
    swapped false false = refl

-- what hanging the next cell upwards asks for
pub rise-outside : (old now : TreeView) (tile from layer to up : ℕ) → tile < tile_count old.shape → layer < to → from ≤ layer → up ≡ cell_on old.shape tile (layer + 1) →
    ((l : ℕ) → from < l → l ≤ to → holds old (cell_on old.shape tile l) ≡ false) → Risen old.shape old now tile from layer → holds now up ≡ false
rise-outside old now tile from layer to up inside lt le is free so_far =
    subst (λ (c : ℕ). holds now c ≡ false) (sym is)
    (free_still old now (in_column old.shape tile (from + 1) (layer + 1)) (vias old.shape tile from layer) (cell_on old.shape tile (layer + 1)) so_far (free (layer + 1) (omega arith) (omega arith))
    (column-out old.shape tile (from + 1) (layer + 1) (layer + 1) inside (λ a b. omega arith)))

pub rise-on : (old now : TreeView) (tile from layer at : ℕ) → tile < tile_count old.shape → from ≤ layer → at ≡ cell_on old.shape tile layer →
    holds old (cell_on old.shape tile from) ≡ true → Risen old.shape old now tile from layer → holds now at ≡ true
rise-on old now tile from layer at inside le is on so_far =
    subst (λ (c : ℕ). holds now c ≡ true) (sym is)
    (elim (cases_eq from layer) [
      | inl same ↦
          held_still old now (in_column old.shape tile (from + 1) (layer + 1)) (vias old.shape tile from layer) (cell_on old.shape tile layer) so_far
          (subst (λ (l : ℕ). holds old (cell_on old.shape tile l) ≡ true) same on)
      | inr other ↦
          held_new old now (in_column old.shape tile (from + 1) (layer + 1)) (vias old.shape tile from layer) (cell_on old.shape tile layer) so_far
          (column-in old.shape tile (from + 1) (layer + 1) layer inside (omega arith) (omega arith))
    ])

pub near_up : (g h : Shape) (tile layer up at : ℕ) → tile < tile_count g → layer + 1 < g.layers → h ≡ g → up ≡ cell_on g tile (layer + 1) → at ≡ cell_on g tile layer → AreNeighbours h up at
near_up g h tile layer up at inside below shape is on =
    let near = near-edge g (cell_on g tile (layer + 1)) (cell_on g tile layer) (edge_at (cell_on g tile layer) Up) (down-edge g tile layer inside below) in
    subst (λ (s : Shape). AreNeighbours s up at) (sym shape)
    (subst (λ (c : ℕ). AreNeighbours g c at) (sym is) (subst (λ (c : ℕ). AreNeighbours g (cell_on g tile (layer + 1)) c) (sym on) near))

pub near_down : (g h : Shape) (tile layer down at : ℕ) → tile < tile_count g → layer + 1 < g.layers → h ≡ g → down ≡ cell_on g tile layer → at ≡ cell_on g tile (layer + 1) → AreNeighbours h down at
near_down g h tile layer down at inside below shape is on =
    let near = near-edge g (cell_on g tile layer) (cell_on g tile (layer + 1)) (edge_at (cell_on g tile layer) Up) (up-edge g tile layer inside below) in
    subst (λ (s : Shape). AreNeighbours s down at) (sym shape)
    (subst (λ (c : ℕ). AreNeighbours g c at) (sym is) (subst (λ (c : ℕ). AreNeighbours g (cell_on g tile layer) c) (sym on) near))

-- what hanging the next cell downwards asks for
pub sink-outside : (old now : TreeView) (tile from layer to down : ℕ) → tile < tile_count old.shape → to ≤ layer → layer < from → down ≡ cell_on old.shape tile layer →
    ((l : ℕ) → to ≤ l → l < from → holds old (cell_on old.shape tile l) ≡ false) → Sunk old.shape old now tile from (layer + 1) → holds now down ≡ false
sink-outside old now tile from layer to down inside le lt is free so_far =
    subst (λ (c : ℕ). holds now c ≡ false) (sym is)
    (free_still old now (in_column old.shape tile (layer + 1) from) (vias old.shape tile (layer + 1) from) (cell_on old.shape tile layer) so_far (free layer le lt)
    (column-out old.shape tile (layer + 1) from layer inside (λ a b. omega arith)))

pub sink-on : (old now : TreeView) (tile from layer at : ℕ) → tile < tile_count old.shape → layer + 1 ≤ from → at ≡ cell_on old.shape tile (layer + 1) →
    holds old (cell_on old.shape tile from) ≡ true → Sunk old.shape old now tile from (layer + 1) → holds now at ≡ true
sink-on old now tile from layer at inside le is on so_far =
    subst (λ (c : ℕ). holds now c ≡ true) (sym is)
    (elim (cases_eq from (layer + 1)) [
      | inl same ↦
          held_still old now (in_column old.shape tile (layer + 1) from) (vias old.shape tile (layer + 1) from) (cell_on old.shape tile (layer + 1)) so_far
          (subst (λ (l : ℕ). holds old (cell_on old.shape tile l) ≡ true) same on)
      | inr other ↦
          held_new old now (in_column old.shape tile (layer + 1) from) (vias old.shape tile (layer + 1) from) (cell_on old.shape tile (layer + 1)) so_far
          (column-in old.shape tile (layer + 1) from (layer + 1) inside (omega arith) (omega arith))
    ])

-- risen and sunk, the whole span is there
pub spread-all : (g : Shape) (old mid new : TreeView) (tile layer : ℕ) (s : Span) → tile < tile_count g → s.low ≤ layer → layer ≤ s.high → holds old (cell_on g tile layer) ≡ true →
    Risen g old mid tile layer s.high → Sunk g mid new tile layer s.low → Grows old new (in_column g tile s.low (s.high + 1)) (is_via_of g tile s)
spread-all g old mid new tile layer s inside above below on up down =
    let all = grows-then old mid new (in_column g tile (layer + 1) (s.high + 1)) (in_column g tile s.low layer) (λ c. in_column g tile (layer + 1) (s.high + 1) c || in_column g tile s.low layer c)
    (vias g tile layer s.high) (vias g tile s.low layer) (is_via_of g tile s) up down (λ c. refl)
    (λ e. swapped (vias g tile layer s.high e) (vias g tile s.low layer e) ∙ vias-join g tile s.low layer s.high e above below) in
    record {
      shape = all.shape;
      first = all.first;
      cells_are = λ c.
          all.cells_are c
          ∙ own (holds old c) (in_column g tile (layer + 1) (s.high + 1) c) (in_column g tile s.low layer c) (in_column g tile layer (layer + 1) c)
          (λ is. subst (λ (k : ℕ). holds old k ≡ true) (eqb-true (cell_on g tile layer) c (column-one g tile layer c inside ∙ is)) on)
          ∙ ap (λ (p : Bool). holds old c || p)
          (ap (λ (p : Bool). p || in_column g tile (layer + 1) (s.high + 1) c) (column-join g tile s.low layer (layer + 1) c above (omega arith))
          ∙ column-join g tile s.low (layer + 1) (s.high + 1) c (omega arith) (omega arith));
      edges_are = all.edges_are;
      added = all.added;
      nodes = all.nodes;
    }
  where
    swapped : (p q : Bool) → (p || q) ≡ (q || p)
    swapped true true = refl
    swapped true false = refl
    swapped false true = refl
    swapped false false = refl

    own : (h p q r : Bool) → (r ≡ true → h ≡ true) → (h || (p || q)) ≡ (h || ((q || r) || p))
    own true p q r has = refl
    own false p q true has = absurd (both_ways false refl (has refl))
    own false true true false has = refl
    own false true false false has = refl
    own false false true false has = refl
    own false false false false has = refl

-- the cell of a tile by another name of the shape
pub at-shape : (g h : Shape) (tile layer cell : ℕ) → h ≡ g → cell ≡ cell_on h tile layer → cell ≡ cell_on g tile layer
at-shape g h tile layer cell same is = is ∙ ap (λ (s : Shape). cell_on s tile layer) same
