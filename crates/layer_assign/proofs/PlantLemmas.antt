-- The first tile of a tree that is raised.
use Rattle.std.proofs.Common.{◌≡◌, ◌≢◌, ℕ, ◌+◌, ◌<◌, inl, inr, Bool, true, false, ◌||◌, ◌==◌, [], ◌∷◌, Option, Some, None, is_some, if◌then◌else◌, refl, sym, ap, subst, ◌∙◌, arith}
use Rattle.std.proofs.lemmas.Bool.{cases_Bool, eqb-true}
use Rattle.std.proofs.lemmas.Nat.{mod_below}
use Rattle.std.specs.List.{list_any, cons_option}
use Rattle.gr_base.specs.EdgeSets.{is_edge}
use Rattle.gr_base.specs.Trees.{TreeView, node_of, cell_at, holds, edges_of}
use Rattle.gr_base.specs.declared.grid.Edge.{Edge}
use Rattle.gr_base.specs.declared.grid.Shape.{Shape}
use Rattle.gr_base.proofs.TreeEdges.{edge_of-self}
use Rattle.layer_assign.specs.declared.span.Span.{Span}
use Rattle.layer_assign.specs.Assignments.{tile_count, tile_of, level_of, cell_on}
use Rattle.layer_assign.specs.Raised.{in_column, is_via_of, Grows}
use Rattle.layer_assign.specs.Raising.{IsIn, IsColumn}
use Rattle.layer_assign.proofs.FlatLemmas.{some_tiles, level-on}
use Rattle.layer_assign.proofs.ColumnLemmas.{in-column}

-- the tree of one cell
abbrev pub seed : Shape → ℕ → TreeView
seed g cell = record { shape = g; nodes = node_of cell 0 ∷ [] }

one_held : (b : Bool) → is_some {T = ℕ} (if b then Some 0 else None) ≡ b
one_held true = refl
one_held false = refl

pub seed-cells : (g : Shape) (cell other : ℕ) → holds (seed g cell) other ≡ (cell == other)
seed-cells g cell other = one_held (cell == other)

pub seed-edges : (g : Shape) (cell : ℕ) (e : Edge) → edges_of (seed g cell) e ≡ false
seed-edges g cell e = ap (λ (o : Option Edge). list_any (is_edge e) (cons_option o [])) (edge_of-self g cell)

-- no other cell of the tile is there
pub planted-free : (g : Shape) (r : TreeView) (cell tile other : ℕ) → r ≡ seed g cell → tile ≡ tile_of g cell → other ≢ level_of g cell → holds r (cell_on r.shape tile other) ≡ false
planted-free g r cell tile other is tile_is apart =
    subst (λ (t : TreeView). holds t (cell_on t.shape tile other) ≡ false) (sym is)
    (seed-cells g cell (cell_on g tile other)
    ∙ elim (cases_Bool (cell == cell_on g tile other)) [
      | inl same ↦
          let below : tile_of g cell < tile_count g = mod_below cell (tile_count g) (some_tiles g) in
          let whole : cell ≡ cell_on g (tile_of g cell) other = eqb-true cell (cell_on g tile other) same ∙ ap (λ (k : ℕ). cell_on g k other) tile_is in
          absurd (apart (sym (level-on g (tile_of g cell) other below) ∙ ap (λ (c : ℕ). level_of g c) (sym whole)))
      | inr not_same ↦ not_same
    ])

-- the tree of one cell, spread over a span, is a column
pub planted : (g : Shape) (old new : TreeView) (cell : ℕ) (s : Span) → old ≡ seed g cell → IsIn s (level_of g cell) →
    Grows old new (in_column g (tile_of g cell) s.low (s.high + 1)) (is_via_of g (tile_of g cell) s) → IsColumn g cell s new
planted g old new cell s is inside grows = record {
  shape = grows.shape ∙ ap (λ (t : TreeView). t.shape) is;
  starts = grows.first ∙ ap (λ (t : TreeView). cell_at t.nodes 0) is;
  cells_are = λ c.
      grows.cells_are c ∙ ap (λ (t : TreeView). holds t c || in_column g (tile_of g cell) s.low (s.high + 1) c) is
      ∙ ap (λ (b : Bool). b || in_column g (tile_of g cell) s.low (s.high + 1) c) (seed-cells g cell c)
      ∙ implied (cell == c) (in_column g (tile_of g cell) s.low (s.high + 1) c)
      (λ same.
      let e : cell ≡ c = eqb-true cell c same in
      let low = inside.low in
      let high = inside.high in
      let level : level_of g c ≡ level_of g cell = ap (λ (k : ℕ). level_of g k) (sym e) in
      in-column g (tile_of g cell) s.low (s.high + 1) c (ap (λ (k : ℕ). tile_of g k) (sym e)) (omega arith) (omega arith));
  edges_are = λ e.
      grows.edges_are e ∙ ap (λ (t : TreeView). edges_of t e || is_via_of g (tile_of g cell) s e) is
      ∙ ap (λ (b : Bool). b || is_via_of g (tile_of g cell) s e) (seed-edges g cell e);
}
  where
    implied : (p q : Bool) → (p ≡ true → q ≡ true) → (p || q) ≡ q
    implied true q implies = sym (implies refl)
    implied false q implies = refl
