use Rattle.std.proofs.Common.{◌≡◌, ℕ, ◌+◌, ◌==◌, ◌∷◌, [], false, sym, ap, subst, ◌∙◌, arith}
use Rattle.gr_base.specs.EdgeSets.{set_of}
use Rattle.gr_base.specs.Trees.{TreeView, holds, walk_edges}
use Rattle.gr_base.specs.declared.grid.Shape.{Shape}
use Rattle.layer_assign.specs.declared.span.Span.{Span}
use Rattle.layer_assign.specs.Assignments.{cell_on}
use Rattle.layer_assign.specs.Raised.{in_column, is_via_of, Grows}
use Rattle.layer_assign.proofs.ColumnLemmas.{on_ok-one}
use Rattle.layer_assign.proofs.LinkLemmas.{entered, enter-free}
use Rattle.layer_assign.specs.NodeOrder.{spreading}
use Rattle.layer_assign.proofs.OrderLemmas.{hung-named}
use Rattle.layer_assign.proofs.raised.enter_tile.Goals as goal

-- the growth by one cell, with the cells as they are named
named : (old mid : TreeView) (h : Shape) (tile from layer up at : ℕ) → h ≡ old.shape → up ≡ cell_on h tile layer → at ≡ cell_on h from layer →
    Grows old mid (λ c. up == c) (set_of (walk_edges old.shape (up ∷ at ∷ []))) →
    Grows old mid (λ c. cell_on old.shape tile layer == c) (set_of (walk_edges old.shape (cell_on old.shape tile layer ∷ cell_on old.shape from layer ∷ [])))
named old mid h tile from layer up at shape is on grows =
    subst (λ (u : ℕ). Grows old mid (λ c. u == c) (set_of (walk_edges old.shape (u ∷ cell_on old.shape from layer ∷ [])))) (is ∙ ap (λ (s : Shape). cell_on s tile layer) shape)
    (subst (λ (v : ℕ). Grows old mid (λ c. up == c) (set_of (walk_edges old.shape (up ∷ v ∷ [])))) (on ∙ ap (λ (s : Shape). cell_on s from layer) shape) grows)

spread-at : (g h : Shape) (mid new : TreeView) (tile : ℕ) (s : Span) → h ≡ g → Grows mid new (in_column h tile s.low (s.high + 1)) (is_via_of h tile s) →
    Grows mid new (in_column g tile s.low (s.high + 1)) (is_via_of g tile s)
spread-at g h mid new tile s same grows = subst (λ (k : Shape). Grows mid new (in_column k tile s.low (s.high + 1)) (is_via_of k tile s)) same grows

pub spread-requires-clause-free : goal.spread-requires-clause-free
spread-requires-clause-free c = λ other apart lt.
    let old = c.args.tree.now in
    let grows = named old c.hang.new.tree c.shape-shape.result c.args.tile c.args.from c.args.layer c.cell_at_level.result c.cell_at_level-2.result c.shape-shape.ensures.shape c.cell_at_level.ensures.cell c.cell_at_level-2.ensures.cell c.in_ok-hang.ensures.grows in
    let shape = grows.shape in
    let below = ap (λ (s : Shape). s.layers) shape in
    subst (λ (s : Shape). holds c.hang.new.tree (cell_on s c.args.tile other) ≡ false) (sym shape)
    (enter-free old.shape old c.hang.new.tree c.args.tile c.args.layer other (cell_on old.shape c.args.tile c.args.layer ∷ cell_on old.shape c.args.from c.args.layer ∷ []) c.requires.tile apart
    (c.requires.free other (omega arith)) grows)

pub returns-clause-grows : goal.returns-clause-grows
returns-clause-grows c =
    let old = c.args.tree.now in
    let grows = named old c.hang.new.tree c.shape-shape.result c.args.tile c.args.from c.args.layer c.cell_at_level.result c.cell_at_level-2.result c.shape-shape.ensures.shape c.cell_at_level.ensures.cell c.cell_at_level-2.ensures.cell c.in_ok-hang.ensures.grows in
    on_ok-one c.spread.result _ _ c.spread.ensures.grows
    (λ spread.
    entered old.shape old c.hang.new.tree c.spread.new.tree c.args.tile c.args.layer c.args.span (cell_on old.shape c.args.tile c.args.layer ∷ cell_on old.shape c.args.from c.args.layer ∷ []) c.requires.tile
    c.requires.layer grows (spread-at old.shape c.hang.new.tree.shape c.hang.new.tree c.spread.new.tree c.args.tile c.args.span grows.shape spread))

pub returns-clause-nodes : goal.returns-clause-nodes
returns-clause-nodes c =
    let old = c.args.tree.now in
    let grows = named old c.hang.new.tree c.shape-shape.result c.args.tile c.args.from c.args.layer c.cell_at_level.result c.cell_at_level-2.result c.shape-shape.ensures.shape c.cell_at_level.ensures.cell c.cell_at_level-2.ensures.cell c.in_ok-hang.ensures.grows in
    let hung =
    hung-named old c.hang.new.tree c.cell_at_level.result c.cell_at_level-2.result (cell_on old.shape c.args.tile c.args.layer) (cell_on old.shape c.args.from c.args.layer) c.in_ok-hang.ensures.nodes
    (c.cell_at_level.ensures.cell ∙ ap (λ (s : Shape). cell_on s c.args.tile c.args.layer) c.shape-shape.ensures.shape)
    (c.cell_at_level-2.ensures.cell ∙ ap (λ (s : Shape). cell_on s c.args.from c.args.layer) c.shape-shape.ensures.shape) in
    on_ok-one c.spread.result _ _ c.spread.ensures.nodes
    (λ spread.
    spread ∙ ap (λ (s : Shape). spreading s c.args.tile c.args.layer c.args.span c.hang.new.tree) grows.shape
    ∙ ap (spreading old.shape c.args.tile c.args.layer c.args.span) hung)
