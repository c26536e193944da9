use Rattle.std.proofs.Common.{◌≡◌, ◌≢◌, ℕ, ◌+◌, ◌<◌, ◌==◌, ◌||◌, ◌∷◌, [], false, length, get_or, refl, sym, ap, subst, ◌∙◌, arith}
use Rattle.gr_base.specs.Grid.{AreNeighbours}
use Rattle.gr_base.specs.EdgeSets.{set_of}
use Rattle.gr_base.specs.Trees.{TreeView, IsTree, holds, walk_edges}
use Rattle.gr_base.specs.declared.grid.Shape.{Shape}
use Rattle.layer_assign.specs.declared.span.Span.{Span}
use Rattle.layer_assign.specs.Spans.{span_in}
use Rattle.layer_assign.specs.Assignments.{IsFlat, cell_on, tile_at}
use Rattle.layer_assign.specs.Raised.{in_column, is_wire_of, is_via_of, Grows}
use Rattle.layer_assign.specs.Raising.{Links}
use Rattle.layer_assign.proofs.FlatLemmas.{tile-at}
use Rattle.layer_assign.proofs.LinkLemmas.{link-near, link-wire}
use Rattle.layer_assign.proofs.OrderLemmas.{visited-named}
use Rattle.layer_assign.proofs.raised.visit.Goals as goal

near-at : (g : Shape) (t : TreeView) (edge from to layer at_from at_to at_layer : ℕ) → at_layer ≡ layer → tile_at t to ≡ at_to → tile_at t from ≡ at_from →
    AreNeighbours g (cell_on g (tile_at t to) layer) (cell_on g (tile_at t from) layer) → AreNeighbours g (cell_on g at_to at_layer) (cell_on g at_from at_layer)
near-at g t edge from to layer at_from at_to at_layer is to_is from_is near =
    subst (λ (l : ℕ). AreNeighbours g (cell_on g at_to l) (cell_on g at_from l)) (sym is)
    (subst (λ (c : ℕ). AreNeighbours g (cell_on g c layer) (cell_on g at_from layer)) to_is
    (subst (λ (c : ℕ). AreNeighbours g (cell_on g (tile_at t to) layer) (cell_on g c layer)) from_is near))

visited : (g : Shape) (t : TreeView) (a : ℕ → ℕ) (old new : TreeView) (edge from to at_from at_to at_layer : ℕ) (s span : Span) → IsFlat g t.shape → IsTree t → 0 < edge → edge < length t.nodes →
    a edge < g.layers → Links t edge from to → at_layer ≡ a edge → tile_at t to ≡ at_to → tile_at t from ≡ at_from → span ≡ s →
    Grows old new (in_column g at_to s.low (s.high + 1)) (λ e. set_of (walk_edges g (cell_on g at_to at_layer ∷ cell_on g at_from at_layer ∷ [])) e || is_via_of g at_to s e) →
    Grows old new (in_column g (tile_at t to) span.low (span.high + 1)) (λ e. is_wire_of g t a edge e || is_via_of g (tile_at t to) span e)
visited g t a old new edge from to at_from at_to at_layer s span flat tree later below inside links is to_is from_is span_is grows =
    let P : ℕ → ℕ → ℕ → Span → Type 0 = λ u v l r.
    Grows old new (in_column g u r.low (r.high + 1)) (λ e. set_of (walk_edges g (cell_on g u l ∷ cell_on g v l ∷ [])) e || is_via_of g u r e) in
    let all =
    subst (λ (r : Span). P (tile_at t to) (tile_at t from) (a edge) r) (sym span_is)
    (subst (λ (l : ℕ). P (tile_at t to) (tile_at t from) l s) is
    (subst (λ (v : ℕ). P (tile_at t to) v at_layer s) (sym from_is) (subst (λ (u : ℕ). P u at_from at_layer s) (sym to_is) grows))) in
    record {
      shape = all.shape;
      first = all.first;
      cells_are = all.cells_are;
      edges_are = λ e.
          all.edges_are e
          ∙ ap (λ (p : Rattle.std.proofs.Common.Bool). Rattle.gr_base.specs.Trees.edges_of old e || (p || is_via_of g (tile_at t to) span e))
          (link-wire g t a edge from to e flat tree later below inside links);
      added = all.added;
      nodes = all.nodes;
    }

pub enter_tile-requires-clause-near : goal.enter_tile-requires-clause-near
enter_tile-requires-clause-near c =
    near-at c.args.tree.now.shape c.args.flat.now c.args.edge c.args.from c.args.to (get_or c.args.layers.now c.args.edge 0) c.cell.result c.cell-2.result c.layer.result c.layer.ensures
    (tile-at c.args.flat.now c.args.to c.cell-2.result c.cell-2.ensures.cell) (tile-at c.args.flat.now c.args.from c.cell.result c.cell.ensures.cell)
    (link-near c.args.tree.now.shape c.args.flat.now c.args.edge c.args.from c.args.to (get_or c.args.layers.now c.args.edge 0) c.requires.flat c.cell.ensures.tree c.requires.later c.requires.edge
    (c.requires.layers.below c.args.edge c.requires.later c.requires.edge) c.requires.links)

pub returns-clause-grows : goal.returns-clause-grows
returns-clause-grows c =
    let t = c.args.flat.now in
    visited c.args.tree.now.shape t (λ node. get_or c.args.layers.now node 0) c.args.tree.now c.enter_tile.new.tree c.args.edge c.args.from c.args.to c.cell.result c.cell-2.result c.layer.result
    c.span_of_node.result (span_in c.args.spans.now c.args.to) c.requires.flat c.cell.ensures.tree c.requires.later c.requires.edge
    (c.requires.layers.below c.args.edge c.requires.later c.requires.edge) c.requires.links c.layer.ensures (tile-at t c.args.to c.cell-2.result c.cell-2.ensures.cell)
    (tile-at t c.args.from c.cell.result c.cell.ensures.cell) (sym c.span_of_node.ensures) c.in_ok-enter_tile.ensures.grows

pub returns-clause-nodes : goal.returns-clause-nodes
returns-clause-nodes c =
    let t = c.args.flat.now in
    visited-named c.args.tree.now.shape t (λ node. get_or c.args.layers.now node 0) (span_in c.args.spans.now) c.args.tree.now c.enter_tile.new.tree c.args.edge c.args.from c.args.to
    c.cell.result c.cell-2.result c.layer.result c.span_of_node.result c.in_ok-enter_tile.ensures.nodes c.layer.ensures (tile-at t c.args.to c.cell-2.result c.cell-2.ensures.cell)
    (tile-at t c.args.from c.cell.result c.cell.ensures.cell) c.span_of_node.ensures
