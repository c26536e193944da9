-- A tile is entered by the wire edge of a node.
use Rattle.std.proofs.Common.{◌≡◌, ◌≢◌, ℕ, ◌+◌, ◌<◌, inl, inr, Bool, true, false, ◌||◌, ◌==◌, min, List, [], ◌∷◌, length, Option, Some, None, unwrap_or, if◌then◌else◌, refl, sym, ap, subst, ◌∙◌, arith}
use Rattle.std.specs.Option.{option_map}
use Rattle.gr_base.specs.ParentEdges.{parent_edge}
use Rattle.gr_base.specs.Grid.{cells_of, place_at, gap, AreNeighbours, steps_between, way_between, edge_at, edge_of, on_layer}
use Rattle.gr_base.specs.EdgeSets.{is_edge, set_of}
use Rattle.gr_base.specs.Trees.{TreeView, holds, walk_edges, IsTree}
use Rattle.gr_base.specs.declared.grid.Cell.{Cell}
use Rattle.gr_base.specs.declared.grid.Edge.{Edge}
use Rattle.gr_base.specs.declared.grid.Shape.{Shape}
use Rattle.gr_base.specs.declared.grid.Way.{Way}
use Rattle.gr_base.specs.declared.grid.Way.TheVariants.{East, North, Up}
use Rattle.gr_base.proofs.GridLemmas.{place-inside}
use Rattle.gr_base.proofs.TreeLemmas.{cell-inside}
use Rattle.gr_base.proofs.TreeEdges.{edge_of-swap}
use Rattle.layer_assign.specs.declared.span.Span.{Span}
use Rattle.layer_assign.specs.Assignments.{IsFlat, tile_count, cell_on, tile_at, parent_of}
use Rattle.layer_assign.specs.Raised.{in_column, is_via_of, is_wire_of, Grows}
use Rattle.layer_assign.specs.Raising.{IsIn, Links}
use Rattle.layer_assign.proofs.FlatLemmas.{over, place-on, flat-cells, some_edge, node_edge, parent-before}
use Rattle.layer_assign.proofs.PinLemmas.{tile-held}
use Rattle.layer_assign.proofs.ColumnLemmas.{grows-then, one_step, near-edge, column-one, column-out, in-column, column-parts}

abbrev apart : Cell → Cell → ℕ
apart p q = gap p.x q.x + gap p.y q.y + gap p.layer q.layer

abbrev way_of : Cell → Cell → Way
way_of p q = if p.x == q.x then (if p.y == q.y then Up else North) else East

lifted : (g : Shape) (layer s t low flat_low : ℕ) (v w : Way) → s ≡ t → low ≡ cell_on g flat_low layer → v ≡ w → (b : Bool) → (t == 1) ≡ b →
    (if s == 1 then Some (edge_at low v) else None) ≡ option_map (on_layer g layer) (if t == 1 then Some (edge_at flat_low w) else None)
lifted g layer s t low flat_low v w steps is way true one = rw (steps, is, way, one) refl
lifted g layer s t low flat_low v w steps is way false other = rw (steps, is, way, other) refl

-- the edge over a flat edge
pub lifted-edge : (g flat : Shape) (a b layer : ℕ) → IsFlat g flat → a < cells_of flat → b < cells_of flat → layer < g.layers →
    edge_of g (cell_on g a layer) (cell_on g b layer) ≡ option_map (on_layer g layer) (edge_of flat a b)
lifted-edge g flat a b layer is first second below =
    let at_a = place-on g flat a layer is first below in
    let at_b = place-on g flat b layer is second below in
    let in_a = place-inside flat a first in
    let in_b = place-inside flat b second in
    let level_a = in_a.layer in
    let level_b = in_b.layer in
    let one = is.layers in
    let levels : gap (place_at flat a).layer (place_at flat b).layer ≡ gap layer layer = omega arith in
    let steps : steps_between g (cell_on g a layer) (cell_on g b layer) ≡ steps_between flat a b =
    ap (λ (p : Cell). apart p (place_at g (cell_on g b layer))) at_a ∙ ap (λ (q : Cell). apart (over flat a layer) q) at_b
    ∙ ap (λ (k : ℕ). gap (place_at flat a).x (place_at flat b).x + gap (place_at flat a).y (place_at flat b).y + k) (sym levels) in
    let low : min (cell_on g a layer) (cell_on g b layer) ≡ cell_on g (min a b) layer = omega arith in
    let way : way_between g (cell_on g a layer) (cell_on g b layer) ≡ way_between flat a b =
    ap (λ (p : Cell). way_of p (place_at g (cell_on g b layer))) at_a ∙ ap (λ (q : Cell). way_of (over flat a layer) q) at_b in
    lifted g layer (steps_between g (cell_on g a layer) (cell_on g b layer)) (steps_between flat a b) (min (cell_on g a layer) (cell_on g b layer)) (min a b)
    (way_between g (cell_on g a layer) (cell_on g b layer)) (way_between flat a b) steps low way (steps_between flat a b == 1) refl

pub tile-below : (t : TreeView) (u : ℕ) → IsTree t → u < length t.nodes → tile_at t u < cells_of t.shape
tile-below t u tree below = cell-inside t.shape t.nodes u (tile_at t u) tree.hanging (tile-held t u below)

pub tile-inside : (g : Shape) (t : TreeView) (u : ℕ) → IsFlat g t.shape → IsTree t → u < length t.nodes → tile_at t u < tile_count g
tile-inside g t u flat tree below = let h = tile-below t u tree below in let e = flat-cells g t.shape flat in omega arith

-- the wire edge of a node leads from its tile to its parent's, and back
pub wire-edge : (g : Shape) (t : TreeView) (edge layer : ℕ) (f : Edge) → IsFlat g t.shape → IsTree t → 0 < edge → edge < length t.nodes → layer < g.layers → parent_edge t edge ≡ Some f →
    edge_of g (cell_on g (tile_at t edge) layer) (cell_on g (tile_at t (parent_of t edge)) layer) ≡ Some (on_layer g layer f)
wire-edge g t edge layer f flat tree later below inside is =
    let early = parent-before t edge tree later below in
    lifted-edge g t.shape (tile_at t edge) (tile_at t (parent_of t edge)) layer flat (tile-below t edge tree below) (tile-below t (parent_of t edge) tree (omega arith)) inside
    ∙ ap (λ (o : Option Edge). option_map (on_layer g layer) o) (sym (node_edge t edge tree later below) ∙ is)

pub link-edge : (g : Shape) (t : TreeView) (edge from to layer : ℕ) (f : Edge) → IsFlat g t.shape → IsTree t → 0 < edge → edge < length t.nodes → layer < g.layers → parent_edge t edge ≡ Some f →
    Links t edge from to → edge_of g (cell_on g (tile_at t to) layer) (cell_on g (tile_at t from) layer) ≡ Some (on_layer g layer f)
link-edge g t edge from to layer f flat tree later below inside is links =
    let edge_is = wire-edge g t edge layer f flat tree later below inside is in
    let P : ℕ → ℕ → Type 0 = λ u v. edge_of g (cell_on g (tile_at t u) layer) (cell_on g (tile_at t v) layer) ≡ Some (on_layer g layer f) in
    elim links [
      | inl up ↦
          subst (λ (u : ℕ). P u from) (sym up.1)
          (subst (λ (v : ℕ). P (parent_of t edge) v) (sym up.0)
          (edge_of-swap g (cell_on g (tile_at t (parent_of t edge)) layer) (cell_on g (tile_at t edge) layer) ∙ edge_is))
      | inr down ↦
          subst (λ (u : ℕ). P u from) (sym down.0) (subst (λ (v : ℕ). P edge v) (sym down.1) edge_is)
    ]

pub link-near : (g : Shape) (t : TreeView) (edge from to layer : ℕ) → IsFlat g t.shape → IsTree t → 0 < edge → edge < length t.nodes → layer < g.layers →
    Links t edge from to → AreNeighbours g (cell_on g (tile_at t to) layer) (cell_on g (tile_at t from) layer)
link-near g t edge from to layer flat tree later below inside links =
    let some = some_edge t edge tree later below in
    near-edge g (cell_on g (tile_at t to) layer) (cell_on g (tile_at t from) layer) (on_layer g layer some.0)
    (link-edge g t edge from to layer some.0 flat tree later below inside some.1.0 links)

-- the edge of the step is the node's wire edge
pub link-wire : (g : Shape) (t : TreeView) (a : ℕ → ℕ) (edge from to : ℕ) (e : Edge) → IsFlat g t.shape → IsTree t → 0 < edge → edge < length t.nodes → a edge < g.layers →
    Links t edge from to → set_of (walk_edges g (cell_on g (tile_at t to) (a edge) ∷ cell_on g (tile_at t from) (a edge) ∷ [])) e ≡ is_wire_of g t a edge e
link-wire g t a edge from to e flat tree later below inside links =
    let some = some_edge t edge tree later below in
    one_step g (cell_on g (tile_at t to) (a edge)) (cell_on g (tile_at t from) (a edge)) (on_layer g (a edge) some.0) e
    (link-edge g t edge from to (a edge) some.0 flat tree later below inside some.1.0 links)
    ∙ ap (λ (o : Option Edge). unwrap_or (option_map (λ f. is_edge e (on_layer g (a edge) f)) o) false) (sym some.1.0)

-- a tile is entered by one of its cells, and spread
pub entered : (g : Shape) (old mid new : TreeView) (tile layer : ℕ) (s : Span) (walk : List ℕ) → tile < tile_count g → IsIn s layer →
    Grows old mid (λ other. cell_on g tile layer == other) (set_of (walk_edges g walk)) → Grows mid new (in_column g tile s.low (s.high + 1)) (is_via_of g tile s) →
    Grows old new (in_column g tile s.low (s.high + 1)) (λ e. set_of (walk_edges g walk) e || is_via_of g tile s e)
entered g old mid new tile layer s walk inside within first second =
    grows-then old mid new (λ other. cell_on g tile layer == other) (in_column g tile s.low (s.high + 1)) (in_column g tile s.low (s.high + 1))
    (set_of (walk_edges g walk)) (is_via_of g tile s) (λ e. set_of (walk_edges g walk) e || is_via_of g tile s e) first second
    (λ c. within_all (cell_on g tile layer == c) (in_column g tile s.low (s.high + 1) c)
    (λ is.
    let parts = column-parts g tile layer (layer + 1) c (sym (column-one g tile layer c inside) ∙ is) in
    let low = within.low in
    let high = within.high in
    in-column g tile s.low (s.high + 1) c parts.0 (let h = parts.1.0 in omega arith) (let h = parts.1.1 in omega arith)))
    (λ e. refl)
  where
    within_all : (p q : Bool) → (p ≡ true → q ≡ true) → (p || q) ≡ q
    within_all true q implies = sym (implies refl)
    within_all false q implies = refl

pub enter-free : (g : Shape) (old mid : TreeView) (tile layer other : ℕ) (walk : List ℕ) → tile < tile_count g → other ≢ layer → holds old (cell_on g tile other) ≡ false →
    Grows old mid (λ c. cell_on g tile layer == c) (set_of (walk_edges g walk)) → holds mid (cell_on g tile other) ≡ false
enter-free g old mid tile layer other walk inside apart free grows =
    let out : (cell_on g tile layer == cell_on g tile other) ≡ false =
    column-one g tile layer (cell_on g tile other) inside ∙ column-out g tile layer (layer + 1) other inside (λ le lt. apart (omega arith)) in
    grows.cells_are (cell_on g tile other) ∙ rw (free, out) refl
