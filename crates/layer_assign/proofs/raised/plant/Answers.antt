use Rattle.std.proofs.Common.{◌≡◌, ℕ, ◌+◌, ◌*◌, ◌/◌, ◌%◌, [], ◌∷◌, sym, ap, subst, ◌∙◌}
use Rattle.gr_base.specs.Trees.{TreeView, node_of}
use Rattle.gr_base.specs.declared.grid.Shape.{Shape}
use Rattle.layer_assign.specs.declared.span.Span.{Span}
use Rattle.layer_assign.specs.Assignments.{tile_count, tile_of}
use Rattle.layer_assign.specs.Raised.{in_column, is_via_of, Grows}
use Rattle.layer_assign.proofs.PlantLemmas.{planted-free, planted}
use Rattle.layer_assign.specs.NodeOrder.{spreading}
use Rattle.layer_assign.proofs.raised.plant.Goals as goal

tiles-at : (g : Shape) (columns rows : ℕ) → columns ≡ g.columns → rows ≡ g.rows → columns * rows ≡ tile_count g
tiles-at g columns rows first second = ap (λ (n : ℕ). n * rows) first ∙ ap (λ (n : ℕ). g.columns * n) second

spread-at : (g h : Shape) (old new : TreeView) (tile same : ℕ) (s : Span) → h ≡ g → tile ≡ same → Grows old new (in_column h tile s.low (s.high + 1)) (is_via_of h tile s) →
    Grows old new (in_column g same s.low (s.high + 1)) (is_via_of g same s)
spread-at g h old new tile same s shape is grows =
    subst (λ (k : ℕ). Grows old new (in_column g k s.low (s.high + 1)) (is_via_of g k s)) is
    (subst (λ (k : Shape). Grows old new (in_column k tile s.low (s.high + 1)) (is_via_of k tile s)) shape grows)

pub spread-requires-clause-free : goal.spread-requires-clause-free
spread-requires-clause-free c = λ other apart lt.
    let tiles = tiles-at c.args.shape c.columns.result c.rows.result c.columns.ensures.columns c.rows.ensures.rows in
    planted-free c.args.shape c.in_ok-tree.tree c.args.cell (c.args.cell % (c.columns.result * c.rows.result)) other c.in_ok-tree.ensures.tree (ap (λ (n : ℕ). c.args.cell % n) tiles)
    (λ same. apart (same ∙ sym (ap (λ (n : ℕ). c.args.cell / n) tiles)))

pub returns-clause-column : goal.returns-clause-column
returns-clause-column c =
    let tiles = tiles-at c.args.shape c.columns.result c.rows.result c.columns.ensures.columns c.rows.ensures.rows in
    planted c.args.shape c.in_ok-tree.tree c.spread.new.tree c.args.cell c.args.span c.in_ok-tree.ensures.tree c.requires.span
    (spread-at c.args.shape c.in_ok-tree.tree.shape c.in_ok-tree.tree c.spread.new.tree (c.args.cell % (c.columns.result * c.rows.result)) (tile_of c.args.shape c.args.cell) c.args.span
    (ap (λ (t : TreeView). t.shape) c.in_ok-tree.ensures.tree) (ap (λ (n : ℕ). c.args.cell % n) tiles) c.in_ok-spread.ensures.grows)

pub returns-clause-nodes : goal.returns-clause-nodes
returns-clause-nodes c =
    let g = c.args.shape in
    let tiles = tiles-at g c.columns.result c.rows.result c.columns.ensures.columns c.rows.ensures.rows in
    let tile = c.args.cell % (c.columns.result * c.rows.result) in
    let level = c.args.cell / (c.columns.result * c.rows.result) in
    c.in_ok-spread.ensures.nodes
    ∙ ap (λ (t : TreeView). spreading t.shape tile level c.args.span t) c.in_ok-tree.ensures.tree
    ∙ ap (λ (n : ℕ). spreading g (c.args.cell % n) (c.args.cell / n) c.args.span (record { shape = g; nodes = node_of c.args.cell 0 ∷ [] })) tiles
