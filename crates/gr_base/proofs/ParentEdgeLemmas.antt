-- The edges from nodes to their parents, by the numbers of the cells.
use Rattle.std.proofs.Common.{◌≡◌, ℕ, suc, zero, ◌*◌, ◌<◌, ◌≤◌, inl, inr, min, Bool, true, false, ◌&&◌, ◌==◌, nat_lt, List, [], ◌∷◌, take, Option, Some, None, IfSome, IsSome, ◌↔◌, slice_get, IsTrue, refl, sym, ap, subst, ◌∙◌, arith}
use Rattle.std.proofs.Math.Nat.{mul-le-mul_left}
use Rattle.std.proofs.lemmas.Bool.{cases_Bool, both_ways}
use Rattle.std.proofs.lemmas.Bool.Decides.{nat_tests}
use Rattle.std.proofs.lemmas.Option.{none-some, same_Some}
use Rattle.gr_base.proofs.GridLemmas.{edge_of-joins, edge-room, some_columns, some_rows}
use Rattle.gr_base.proofs.TreeEdges.{edge_of-self, edge_of-some, edge-at}
use Rattle.gr_base.proofs.TreeLemmas.{node_from_cell, hangs-at, parent-of, cell_at-take, cell-inside}
use Rattle.std.specs.Option.{option_map}
use Rattle.gr_base.specs.Grid.{cells_of, place_at, gap, AreNeighbours, edge_at, edge_of, has_edge, has_room, stride, Joins}
use Rattle.gr_base.specs.ParentEdges.{parent_edge, edge_apart, AreNear}
use Rattle.gr_base.specs.Trees.{TreeView, cell_at, parent_at, IsTree, Hangs}
use Rattle.gr_base.specs.declared.grid.Cell.{Cell}
use Rattle.gr_base.specs.declared.grid.Edge.{Edge}
use Rattle.gr_base.specs.declared.grid.Shape.{Shape}
use Rattle.gr_base.specs.declared.grid.Way.{Way}
use Rattle.gr_base.specs.declared.grid.Way.TheVariants.{East, North, Up}
use Rattle.gr_base.specs.declared.tree.Node.{Node}

-- the edges between neighbours are told apart by how far apart the cells' numbers are
by_way : (g : Shape) (place : Cell) (way : Way) (low n : ℕ) → n ≡ stride g way → IsTrue (has_room g place way) →
    Some (edge_at low way) ≡ edge_apart g low n
by_way g place East low n is room =
    let some : (n == 0) ≡ false = grind (arith, nat_tests) in
    let east : (n == 1 && nat_lt 1 g.columns) ≡ true = grind (arith, nat_tests) in
    rw (some, east) refl
by_way g place North low n is room =
    let columns = some_columns g in
    let some : (n == 0) ≡ false = grind (arith, nat_tests) in
    let east : (n == 1 && nat_lt 1 g.columns) ≡ false = grind (arith, nat_tests) in
    let north : (n == g.columns && nat_lt 1 g.rows) ≡ true = grind (arith, nat_tests) in
    rw (some, east, north) refl
by_way g place Up low n is room = rw (some, not_one, not_columns) refl
  where
    some : (n == 0) ≡ false
    some =
        let columns = some_columns g in
        let rows = some_rows g in
        let large : g.columns * 1 ≤ g.columns * g.rows = mul-le-mul_left g.columns rows in
        grind (arith, nat_tests)

    not_one : (n == 1 && nat_lt 1 g.columns) ≡ false
    not_one =
        let rows = some_rows g in
        let large : g.columns * 1 ≤ g.columns * g.rows = mul-le-mul_left g.columns rows in
        grind (arith, nat_tests)

    not_columns : (n == g.columns && nat_lt 1 g.rows) ≡ false
    not_columns =
        elim (cases_Bool (nat_lt 1 g.rows)) [
          | inl more ↦
              let two : 2 ≤ g.rows = grind (arith, nat_tests) in
              let columns = some_columns g in
              let large : g.columns * 2 ≤ g.columns * g.rows = mul-le-mul_left g.columns two in
              grind (arith, nat_tests)
          | inr one ↦ rw one (last (n == g.columns))
        ]
      where
        last : (b : Bool) → (b && false) ≡ false
        last true = refl
        last false = refl

apart_zero : (g : Shape) (low n : ℕ) → n ≡ 0 → None ≡ edge_apart g low n
apart_zero g low n is = let none : (n == 0) ≡ true = grind (arith, nat_tests) in rw none refl

joined-apart : (g : Shape) (a b : ℕ) (e : Edge) → Joins g e a b → (gap a b ≡ stride g e.way) × (min a b ≡ e.low)
joined-apart g a b e joins =
    elim joins.ends [
      | inl ends ↦ (omega (arith, ends.0, ends.1), omega (arith, ends.0, ends.1))
      | inr ends ↦ (omega (arith, ends.0, ends.1), omega (arith, ends.0, ends.1))
    ]

-- the edge between two cells that are one or neighbours
pub edge-near : (g : Shape) (a b : ℕ) → a < cells_of g → b < cells_of g → AreNear g a b → edge_of g a b ≡ edge_apart g (min a b) (gap a b)
edge-near g a b a_in b_in near =
    elim near [
      | inl same ↦ ap (λ (k : ℕ). edge_of g k b) same ∙ edge_of-self g b ∙ apart_zero g (min a b) (gap a b) (omega arith)
      | inr one ↦
          let edge = edge_of-some g a b one in
          let P : Option Edge → Type 0 = λ o. IfSome o (λ e. Joins g e a b) in
          let joins : Joins g edge.0 a b = subst P edge.1 (edge_of-joins g a b a_in b_in) in
          let apart = joined-apart g a b edge.0 joins in
          edge.1
          ∙ by_way g (place_at g edge.0.low) edge.0.way edge.0.low (gap a b) apart.0 (edge-room g edge.0 joins.edge)
          ∙ ap (λ (low : ℕ). edge_apart g low (gap a b)) (sym apart.1)
    ]

-- a node's cell and its parent's: the first node's are one, another's are neighbours
record Leans (g : Shape) (k a b : ℕ) : Type 0 where
  first : k ≡ 0 → a ≡ b
  later : 0 < k → AreNeighbours g a b

leans-node : (g : Shape) (nodes : List Node) (k : ℕ) (node : Node) (b : ℕ) → slice_get nodes k ≡ Some node → Hangs g (take k nodes) node →
    cell_at nodes node.parent ≡ Some b → Leans g k node.cell b
leans-node g [] k node b is hangs at = absurd (none-some node is)
leans-node g (x ∷ xs) zero node b is hangs at =
    let first : cell_at (x ∷ xs) 0 ≡ Some b = ap (λ (p : ℕ). cell_at (x ∷ xs) p) (sym hangs.parent) ∙ at in
    record {
      first = λ _. ap (λ (n : Node). n.cell) (sym (same_Some x node is)) ∙ same_Some x.cell b first;
      later = λ below. absurd (omega arith);
    }
leans-node g (x ∷ xs) (suc k) node b is hangs at =
    let parent = parent-of g (x ∷ take k xs) node (omega arith) hangs.parent in
    let there : cell_at (x ∷ xs) node.parent ≡ Some parent.0 = cell_at-take (x ∷ xs) (suc k) node.parent parent.0 parent.1.0 in
    let same : parent.0 ≡ b = same_Some parent.0 b (sym there ∙ at) in
    record {
      first = λ zero. absurd (omega arith);
      later = λ _. subst (λ (c : ℕ). AreNeighbours g node.cell c) same parent.1.1;
    }

leans-parent : (t : TreeView) (k parent a b : ℕ) → IsTree t → cell_at t.nodes k ≡ Some a → parent_at t.nodes k ≡ Some parent →
    cell_at t.nodes parent ≡ Some b → Leans t.shape k a b
leans-parent t k parent a b tree cell is at =
    let node = node_from_cell t.nodes k a cell in
    let of_node : parent_at t.nodes k ≡ Some node.0.parent = ap (λ (o : Option Node). option_map (λ (n : Node). n.parent) o) node.1.0 in
    let same : parent ≡ node.0.parent = same_Some parent node.0.parent (sym is ∙ of_node) in
    let there : cell_at t.nodes node.0.parent ≡ Some b = ap (λ (p : ℕ). cell_at t.nodes p) (sym same) ∙ at in
    subst (λ (c : ℕ). Leans t.shape k c b) node.1.1
    (leans-node t.shape t.nodes k node.0 b node.1.0 (hangs-at t.shape t.nodes k node.0 tree.hanging node.1.0) there)

-- what is known of a node's cell and its parent's
pub record IsHeld (t : TreeView) (k parent a b : ℕ) : Type 0 where
  pub tree : IsTree t
  pub cell : cell_at t.nodes k ≡ Some a
  pub parent_is : parent_at t.nodes k ≡ Some parent
  pub other : cell_at t.nodes parent ≡ Some b

near-parent : (t : TreeView) (k parent a b : ℕ) → IsHeld t k parent a b → AreNear t.shape a b
near-parent t zero parent a b held = inl ((leans-parent t zero parent a b held.tree held.cell held.parent_is held.other).first refl)
near-parent t (suc k) parent a b held = inr ((leans-parent t (suc k) parent a b held.tree held.cell held.parent_is held.other).later (omega arith))

-- the edge to the parent, from the numbers of the cells
parent-edge : (t : TreeView) (k parent a b : ℕ) → IsHeld t k parent a b → edge_apart t.shape (min a b) (gap a b) ≡ parent_edge t k
parent-edge t k parent a b held =
    sym (edge-near t.shape a b (cell-inside t.shape t.nodes k a held.tree.hanging held.cell)
    (cell-inside t.shape t.nodes parent b held.tree.hanging held.other) (near-parent t k parent a b held))
    ∙ sym (edge-at t.shape t.nodes k a parent b held.cell held.parent_is held.other)

-- the same, as the code makes it
pub made-edge : (t : TreeView) (g : Shape) (k parent a b low n : ℕ) (o : Option Edge) → IsHeld t k parent a b → g ≡ t.shape →
    low ≡ min a b → n ≡ gap a b → o ≡ edge_apart g low n → o ≡ parent_edge t k
made-edge t g k parent a b low n o held shape low_is n_is made =
    made ∙ ap (λ (s : Shape). edge_apart s low n) shape ∙ ap (λ (m : ℕ). edge_apart t.shape m n) low_is
    ∙ ap (λ (m : ℕ). edge_apart t.shape (min a b) m) n_is ∙ parent-edge t k parent a b held

-- it is one of the grid's
pub parent-inside : (t : TreeView) (k parent a b : ℕ) → IsHeld t k parent a b → IfSome (parent_edge t k) (λ e. IsTrue (has_edge t.shape e))
parent-inside t k parent a b held =
    let P : Option Edge → Type 0 = λ o. IfSome o (λ e. IsTrue (has_edge t.shape e)) in
    subst P (sym (edge-at t.shape t.nodes k a parent b held.cell held.parent_is held.other))
    (edge-of (edge_of t.shape a b) (edge_of-joins t.shape a b (cell-inside t.shape t.nodes k a held.tree.hanging held.cell)
    (cell-inside t.shape t.nodes parent b held.tree.hanging held.other)))
  where
    edge-of : (o : Option Edge) → IfSome o (λ e. Joins t.shape e a b) → IfSome o (λ e. IsTrue (has_edge t.shape e))
    edge-of None joins = tt
    edge-of (Some e) joins = joins.edge

-- each node but the first has one
pub parent-some : (t : TreeView) (k parent a b : ℕ) → IsHeld t k parent a b → IsSome (parent_edge t k) ↔ (0 < k)
parent-some t zero parent a b held =
    let same = (leans-parent t zero parent a b held.tree held.cell held.parent_is held.other).first refl in
    let none : parent_edge t zero ≡ None =
    edge-at t.shape t.nodes zero a parent b held.cell held.parent_is held.other ∙ ap (λ (c : ℕ). edge_of t.shape c b) same ∙ edge_of-self t.shape b in (
      λ some. absurd (both_ways false refl (subst (λ (o : Option Edge). IsSome o) none some)),
      λ below. absurd (omega arith),
    )
parent-some t (suc k) parent a b held =
    let one = (leans-parent t (suc k) parent a b held.tree held.cell held.parent_is held.other).later (omega arith) in
    let edge = edge_of-some t.shape a b one in
    let is : parent_edge t (suc k) ≡ Some edge.0 = edge-at t.shape t.nodes (suc k) a parent b held.cell held.parent_is held.other ∙ edge.1 in (
      λ some. omega arith,
      λ below. subst (λ (o : Option Edge). IsSome o) (sym is) refl,
    )
