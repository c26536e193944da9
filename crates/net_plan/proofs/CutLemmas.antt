-- A walk that is cut where it meets the tree.
use Rattle.std.proofs.Common.{◌≡◌, ℕ, ◌+◌, ◌<◌, inl, inr, Bool, true, false, ◌||◌, ◌==◌, List, [], ◌∷◌, All, Option, IsTrue, refl, sym, ap, subst, ◌∙◌, arith}
use Rattle.std.proofs.lemmas.Bool.{cases_Bool, cases_eq}
use Rattle.std.proofs.lemmas.Bool.Decides.{nat_tests}
use Rattle.std.proofs.lemmas.List.Elements.{All-head, All-tail}
use Rattle.gr_base.specs.Grid.{cells_of, steps_between}
use Rattle.gr_base.specs.Trees.{TreeView, holds, is_among, IsWalkTo, AddsCells}
use Rattle.gr_base.specs.declared.grid.Edge.{Edge}
use Rattle.gr_base.specs.declared.grid.Shape.{Shape}
use Rattle.pattern_route.specs.Walks.{last_of, StepsOn, Recedes, IsDirect}
use Rattle.steiner_topology.specs.Topology.{place_of, parent_of}
use Rattle.steiner_topology.specs.declared.point.Point.{Point}
use Rattle.net_plan.specs.FlatTrees.{up_to_tree, cell_of_tile, walk_up}

-- the walk ends at a cell in the tree, and else goes on
cut-held : (t : TreeView) (cell : ℕ) (rest : List ℕ) → holds t cell ≡ true → up_to_tree t (cell ∷ rest) ≡ cell ∷ []
cut-held t cell rest held = rw held refl

cut-free : (t : TreeView) (cell : ℕ) (rest : List ℕ) → holds t cell ≡ false → up_to_tree t (cell ∷ rest) ≡ cell ∷ up_to_tree t rest
cut-free t cell rest free = rw free refl

-- no cell of a walk that goes away from a cell is that cell, cut or not
absent : (g : Shape) (t : TreeView) (a u n : ℕ) (cells : List ℕ) → Recedes g a n cells → steps_between g a u < n → is_among (up_to_tree t cells) u ≡ false
absent g t a u n [] recedes nearer = refl
absent g t a u n (v ∷ rest) recedes nearer =
    let other : (v == u) ≡ false =
    elim (cases_eq v u) [
      | inl same ↦ let e = ap (steps_between g a) same in let h = recedes.0 in absurd (omega arith)
      | inr apart ↦ grind (arith, nat_tests)
    ] in
    let later = absent g t a u (n + 1) rest recedes.1 (omega arith) in
    elim (cases_Bool (holds t v)) [
      | inl held ↦ ap (λ (xs : List ℕ). is_among xs u) (cut-held t v rest held) ∙ (rw other refl)
      | inr free ↦ ap (λ (xs : List ℕ). is_among xs u) (cut-free t v rest free) ∙ (rw (other, later) refl)
    ]

-- a walk that goes away from its first cell, to a cell of the tree, is cut to a walk to the tree
cut-walk : (t : TreeView) (a n u : ℕ) (rest : List ℕ) → StepsOn t.shape u rest → Recedes t.shape a n (u ∷ rest) →
    All (λ cell. cell < cells_of t.shape) (u ∷ rest) → IsTrue (holds t (last_of u rest)) → IsWalkTo t (up_to_tree t (u ∷ rest))
cut-walk t a n u [] steps recedes inside ends =
    elim (cases_Bool (holds t u)) [
      | inl held ↦ subst (IsWalkTo t) (sym (cut-held t u [] held)) held
      | inr free ↦ subst (IsWalkTo t) (sym (cut-free t u [] free)) ends
    ]
cut-walk t a n u (v ∷ after) steps recedes inside ends =
    let P : ℕ → Type 0 = λ cell. cell < cells_of t.shape in
    let first : steps_between t.shape a u ≡ n = recedes.0 in
    elim (cases_Bool (holds t u)) [
      | inl held ↦ subst (IsWalkTo t) (sym (cut-held t u (v ∷ after) held)) held
      | inr free ↦
          subst (IsWalkTo t) (sym (cut-free t u (v ∷ after) free)) (
            record {
              inside = All-head P u (v ∷ after) inside;
              outside = free;
              once = absent t.shape t a u (n + 1) (v ∷ after) recedes.1 (omega arith);
              neighbours = steps.0;
            },
            cut-walk t a (n + 1) v after steps.1 recedes.1 (All-tail P u (v ∷ after) inside) ends,
          )
    ]

-- a direct walk to a cell of the tree, cut where it meets the tree, is a walk to the tree
pub direct-walk : (t : TreeView) (a b : ℕ) (cells : List ℕ) → IsDirect t.shape a b cells → IsTrue (holds t b) → IsWalkTo t (up_to_tree t cells)
direct-walk t a b cells direct held =
    let P : List ℕ → Type 0 = λ xs. IsWalkTo t (up_to_tree t xs) in
    subst P (sym direct.starts)
    (cut-walk t a 0 a direct.rest direct.neighbours (subst (Recedes t.shape a 0) direct.starts direct.recedes)
    (subst (All (λ cell. cell < cells_of t.shape)) direct.starts direct.inside)
    (subst (λ (c : ℕ). IsTrue (holds t c)) (sym direct.ends) held))

-- it passes its first cell
pub cut-first : (t : TreeView) (a b : ℕ) (cells : List ℕ) → IsDirect t.shape a b cells → is_among (up_to_tree t cells) a ≡ true
cut-first t a b cells direct =
    let test : (a == a) ≡ true = grind (arith, nat_tests) in
    let begun : is_among (up_to_tree t (a ∷ direct.rest)) a ≡ true = rw test refl in
    ap (λ (xs : List ℕ). is_among (up_to_tree t xs) a) direct.starts ∙ begun

-- the walk from a point to its parent, as it is made step by step
pub record IsWalkUp (t : TreeView) (price : Edge → Option ℕ) (points : List Point) (v : ℕ) (cut : List ℕ) : Type 0 where
  pub walk : IsWalkTo t cut
  pub exact : cut ≡ up_to_tree t (walk_up t.shape price points v)
  pub first : is_among cut (cell_of_tile t.shape (place_of points v)) ≡ true

pub walk-up : (t : TreeView) (g : Shape) (price : Edge → Option ℕ) (points : List Point) (v : ℕ) (walk cells cut : List ℕ) → g ≡ t.shape →
    walk ≡ walk_up g price points v → IsDirect g (cell_of_tile g (place_of points v)) (cell_of_tile g (place_of points (parent_of points v))) walk →
    cells ≡ walk → cut ≡ up_to_tree t cells → IsTrue (holds t (cell_of_tile t.shape (place_of points (parent_of points v)))) → IsWalkUp t price points v cut
walk-up t g price points v walk cells cut shape is direct cells_is cut_is held =
    let start = cell_of_tile t.shape (place_of points v) in
    let end = cell_of_tile t.shape (place_of points (parent_of points v)) in
    let cuts : cut ≡ up_to_tree t walk = cut_is ∙ ap (up_to_tree t) cells_is in
    let straight : IsDirect t.shape start end walk =
    subst (λ (s : Shape). IsDirect s (cell_of_tile s (place_of points v)) (cell_of_tile s (place_of points (parent_of points v))) walk) shape direct in
    record {
      walk = subst (IsWalkTo t) (sym cuts) (direct-walk t start end walk straight held);
      exact = cuts ∙ ap (up_to_tree t) (is ∙ ap (λ (s : Shape). walk_up s price points v) shape);
      first = ap (λ (xs : List ℕ). is_among xs start) cuts ∙ cut-first t start end walk straight;
    }

or-true : (a b : Bool) → b ≡ true → (a || b) ≡ true
or-true true b is = refl
or-true false b is = is

-- a tree that gains a walk has its cells
pub held-walk : (t new : TreeView) (walk : List ℕ) (cell : ℕ) → AddsCells t walk new → is_among walk cell ≡ true → holds new cell ≡ true
held-walk t new walk cell adds among = adds cell ∙ or-true (holds t cell) (is_among walk cell) among

-- and it keeps its own
pub held-kept : (t new : TreeView) (walk : List ℕ) (cell : ℕ) → AddsCells t walk new → holds t cell ≡ true → holds new cell ≡ true
held-kept t new walk cell adds held = adds cell ∙ (rw held refl)
