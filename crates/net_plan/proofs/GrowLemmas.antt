-- A flat tree, point by point.
use Rattle.std.proofs.Common.{◌≡◌, ℕ, ◌+◌, ◌<◌, ◌≤◌, ◌⊎◌, inl, inr, Bool, true, false, ◌||◌, ◌==◌, Option, List, [], ◌∷◌, ◌++◌, length, take, get_or, fold, All, IsTrue, refl, sym, ap, subst, ◌∙◌, arith}
use Rattle.std.proofs.lemmas.Bool.Decides.{nat_tests}
use Rattle.std.proofs.lemmas.List.{take_more, take_all}
use Rattle.std.proofs.lemmas.List.Elements.{All-from_get_or}
use Rattle.std.proofs.lemmas.List.Sums.{fold_push}
use Rattle.gr_base.specs.Trees.{TreeView, node_of, holds}
use Rattle.gr_base.specs.declared.grid.Edge.{Edge}
use Rattle.gr_base.specs.declared.grid.Shape.{Shape}
use Rattle.steiner_topology.specs.Spanning.{IsTopology}
use Rattle.steiner_topology.specs.Tile.{Tile}
use Rattle.steiner_topology.specs.Topology.{point, place_of, parent_of}
use Rattle.steiner_topology.specs.declared.point.Point.{Point}
use Rattle.net_plan.specs.FlatTrees.{cell_of_tile, with_point, first_tile, tree_of, HoldsHandled}
use Rattle.net_plan.specs.Orders.{is_handled, order_of}
use Rattle.net_plan.proofs.OrderLemmas.{handled-push, order_of-handled, order_of-orderly, ComesNext}

-- the tree after the first points of the order
pub record HasGrown (flat : Shape) (price : Edge → Option ℕ) (points : List Point) (order : List ℕ) (count : ℕ) (t : TreeView) : Type 0 where
  pub shape : t.shape ≡ flat
  pub tree : t ≡ fold (with_point flat price points) (first_tile flat points) (take count order)
  pub held : HoldsHandled flat points (take count order) t

or-end : (b : Bool) → (b || false) ≡ true → b ≡ true
or-end true is = refl
or-end false is = is

-- a tree of one cell
abbrev one_cell : Shape → ℕ → TreeView
one_cell flat cell = record { shape = flat; nodes = node_of cell 0 ∷ [] }

-- the tree with which the code starts is that of point 0's tile
pub tree-first : (flat : Shape) (points : List Point) (tile : Tile) (cell : ℕ) (t : TreeView) → t ≡ one_cell flat cell → cell ≡ cell_of_tile flat tile →
    tile ≡ place_of points 0 → t ≡ first_tile flat points
tree-first flat points tile cell t is cell_is tile_is =
    is ∙ ap (one_cell flat) (cell_is ∙ ap (λ (p : Tile). cell_of_tile flat p) tile_is)

-- the first tree holds point 0's tile
pub grown-first : (flat : Shape) (price : Edge → Option ℕ) (points : List Point) (order : List ℕ) (t : TreeView) → t ≡ first_tile flat points →
    HasGrown flat price points order 0 t
grown-first flat price points order t is = record {
  shape = ap (λ (u : TreeView). u.shape) is;
  tree = is;
  held = λ v handled.
      let root : v ≡ 0 = zero_of v (or-end (v == 0) handled) in
      let start = cell_of_tile flat (place_of points 0) in
      let test : (start == start) ≡ true = grind (arith, nat_tests) in
      let held : holds (first_tile flat points) start ≡ true = rw test refl in
      ap (λ (n : ℕ). holds t (cell_of_tile flat (place_of points n))) root ∙ ap (λ (u : TreeView). holds u start) is ∙ held;
}
  where
    zero_of : (v : ℕ) → (v == 0) ≡ true → v ≡ 0
    zero_of v test = grind (arith, nat_tests)

or-cases : (a b : Bool) → (a || b) ≡ true → (a ≡ true) ⊎ (b ≡ true)
or-cases true b is = inl refl
or-cases false b is = inr is

-- one more point
pub grown-more : (flat : Shape) (price : Edge → Option ℕ) (points : List Point) (order : List ℕ) (count d v : ℕ) (t new : TreeView) → count < length order →
    v ≡ get_or order count d → HasGrown flat price points order count t → new ≡ with_point t.shape price points t v →
    IsTrue (holds new (cell_of_tile t.shape (place_of points v))) → ((cell : ℕ) → IsTrue (holds t cell) → IsTrue (holds new cell)) →
    HasGrown flat price points order (count + 1) new
grown-more flat price points order count d v t new below is grown made point_held kept =
    let longer : take (count + 1) order ≡ take count order ++ v ∷ [] =
    take_more order count d below ∙ ap (λ (n : ℕ). take count order ++ n ∷ []) (sym is) in
    let flat_made : new ≡ with_point flat price points t v = made ∙ ap (λ (s : Shape). with_point s price points t v) grown.shape in
    record {
      shape = ap (λ (u : TreeView). u.shape) flat_made ∙ grown.shape;
      tree =
          flat_made ∙ ap (λ (u : TreeView). with_point flat price points u v) grown.tree ∙
          sym (fold_push (with_point flat price points) (first_tile flat points) (take count order) v) ∙
          ap (fold (with_point flat price points) (first_tile flat points)) (sym longer);
      held = λ u handled.
          let either : (is_handled (take count order) u || (v == u)) ≡ true =
          sym (ap (λ (xs : List ℕ). is_handled xs u) longer ∙ handled-push (take count order) v u) ∙ handled in
          elim (or-cases (is_handled (take count order) u) (v == u) either) [
            | inl before ↦ kept (cell_of_tile flat (place_of points u)) (grown.held u before)
            | inr here ↦
                let same : v ≡ u = eq-of v u here in
                let at : holds new (cell_of_tile flat (place_of points v)) ≡ true =
                ap (λ (s : Shape). holds new (cell_of_tile s (place_of points v))) (sym grown.shape) ∙ point_held in
                ap (λ (n : ℕ). holds new (cell_of_tile flat (place_of points n))) (sym same) ∙ at
          ];
    }
  where
    eq-of : (a b : ℕ) → (a == b) ≡ true → a ≡ b
    eq-of a b test = grind (arith, nat_tests)

-- the tile of a point's parent is held before the point is joined
pub parent-held : (flat : Shape) (price : Edge → Option ℕ) (points : List Point) (order : List ℕ) (count d v : ℕ) (t : TreeView) → order ≡ order_of points →
    count < length order → v ≡ get_or order count d → HasGrown flat price points order count t →
    (v < length points) × IsTrue (holds t (cell_of_tile t.shape (place_of points (parent_of points v))))
parent-held flat price points order count d v t ordered below is grown =
    let P : List ℕ → Type 0 = λ xs. (place e : ℕ) → place < length xs → ComesNext points (take place xs) (get_or xs place e) in
    let next : ComesNext points (take count order) v =
    subst (ComesNext points (take count order)) (sym is) (subst P (sym ordered) (order_of-orderly points) count d below) in
    let held = grown.held (parent_of points v) next.parent in
    (next.inside, ap (λ (s : Shape). holds t (cell_of_tile s (place_of points (parent_of points v)))) grown.shape ∙ held)

-- all points
pub grown-tree : (flat : Shape) (price : Edge → Option ℕ) (points : List Point) (order : List ℕ) (count : ℕ) (t : TreeView) → order ≡ order_of points →
    length order ≤ count → HasGrown flat price points order count t → t ≡ tree_of flat price points
grown-tree flat price points order count t ordered most grown =
    grown.tree ∙ ap (fold (with_point flat price points) (first_tile flat points)) (take_all count order most ∙ ordered)

pub grown-points : (flat : Shape) (price : Edge → Option ℕ) (points : List Point) (order : List ℕ) (count : ℕ) (t : TreeView) → IsTopology points → order ≡ order_of points →
    length order ≤ count → HasGrown flat price points order count t →
    All (λ (p : Point). IsTrue (holds t (cell_of_tile flat p.tile))) points
grown-points flat price points order count t tree ordered most grown =
    All-from_get_or (λ (p : Point). IsTrue (holds t (cell_of_tile flat p.tile))) points (point (0, 0) 0) (λ v below.
    grown.held v (ap (λ (xs : List ℕ). is_handled xs v) (take_all count order most ∙ ordered) ∙ order_of-handled points v tree below))
