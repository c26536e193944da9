-- How far a tree reaches from its first cell.
use Rattle.std.proofs.Common.{◌≡◌, ℕ, suc, zero, ◌+◌, ◌-◌, ◌<◌, ◌≤◌, inl, inr, Bool, true, false, ◌&&◌, nat_lt, max, List, [], length, take, Option, Some, None, IsTrue, refl, sym, ap, subst, ◌∙◌, arith}
use Rattle.std.proofs.lemmas.Bool.{cases_Bool, cases_eq, both_ways}
use Rattle.std.proofs.lemmas.Bool.Decides.{nat_tests}
use Rattle.std.proofs.lemmas.List.{length-take-le}
use Rattle.std.proofs.lemmas.Option.{none-some, same_Some}
use Rattle.std.specs.Option.{option_and_then}
use Rattle.gr_base.proofs.TreeDistinct.{gives, joins-of}
use Rattle.gr_base.proofs.TreeLemmas.{node_from_cell, hangs-at, parent-of, cell_at-take, cell_at-within, cell-inside, read-cell}
use Rattle.gr_base.specs.Grid.{cells_of, place_at, gap, AreNeighbours, edge_of}
use Rattle.gr_base.specs.Trees.{TreeView, IsTree, AllHang, cell_at, edge_to_parent, edges_of}
use Rattle.gr_base.specs.declared.grid.Cell.{Cell}
use Rattle.gr_base.specs.declared.grid.Edge.{Edge}
use Rattle.gr_base.specs.declared.grid.Shape.{Shape}
use Rattle.gr_base.specs.declared.tree.Node.{Node}
use Rattle.maze_route.specs.Windows.{in_window, is_within}
use Rattle.maze_route.specs.declared.window.Window.{Window}
use Rattle.book_state.specs.Beyond.{outside, BeginsNone}

-- how far apart two cells are in columns and rows
abbrev flat : Cell → Cell → ℕ
flat p q = gap p.x q.x + gap p.y q.y

gap-over : (a b c : ℕ) → gap a c ≤ gap a b + gap b c
gap-over a b c = omega arith

-- a step adds at most 1
step-adds : (x y near_x near_y by_x by_y layers k : ℕ) → x ≤ near_x + by_x → y ≤ near_y + by_y → near_x + near_y ≤ k → by_x + by_y + layers ≡ 1 → x + y ≤ k + 1
step-adds x y near_x near_y by_x by_y layers k over_x over_y near one = omega arith

gap-swap : (a b : ℕ) → gap a b ≡ gap b a
gap-swap a b = omega arith

further : (g : Shape) (first next cell k : ℕ) → flat (place_at g first) (place_at g next) ≤ k → AreNeighbours g cell next → flat (place_at g first) (place_at g cell) ≤ k + 1
further g first next cell k near one =
    let p = place_at g first in
    let q = place_at g next in
    let r = place_at g cell in
    step-adds (gap p.x r.x) (gap p.y r.y) (gap p.x q.x) (gap p.y q.y) (gap q.x r.x) (gap q.y r.y) (gap r.layer q.layer) k
    (gap-over p.x q.x r.x) (gap-over p.y q.y r.y) near
    (ap (λ (n : ℕ). n + gap q.y r.y + gap r.layer q.layer) (gap-swap q.x r.x) ∙ ap (λ (n : ℕ). gap r.x q.x + n + gap r.layer q.layer) (gap-swap q.y r.y) ∙ one)

-- the first node's cell lies no step away from itself
reach-root : (g : Shape) (nodes : List Node) (first k cell : ℕ) → cell_at nodes 0 ≡ Some first → k ≡ 0 → cell_at nodes k ≡ Some cell → flat (place_at g first) (place_at g cell) ≤ k
reach-root g nodes first k cell root start is =
    let here : cell_at nodes 0 ≡ Some cell = subst (λ (n : ℕ). cell_at nodes n ≡ Some cell) start is in
    subst (λ (c : ℕ). flat (place_at g first) (place_at g c) ≤ k) (same_Some first cell (sym root ∙ here)) (omega arith)

-- the cell of a later node's parent, and the parent's number
hung-at : (g : Shape) (nodes : List Node) (k cell : ℕ) → AllHang g [] nodes → 0 < k → cell_at nodes k ≡ Some cell →
    (parent : ℕ) × ((next : ℕ) × ((parent < k) × ((cell_at nodes parent ≡ Some next) × AreNeighbours g cell next)))
hung-at g nodes k cell hanging later is =
    let node = node_from_cell nodes k cell is in
    let within : k < length nodes = cell_at-within nodes k cell is in
    let count : length (take k nodes) ≡ k = length-take-le k nodes (omega arith) in
    let parent = parent-of g (take k nodes) node.0 (omega arith) (hangs-at g nodes k node.0 hanging node.1.0).parent in
    let earlier = cell_at-within (take k nodes) node.0.parent parent.0 parent.1.0 in (
      node.0.parent,
      (
        parent.0,
        (
          omega arith,
          (
            cell_at-take nodes k node.0.parent parent.0 parent.1.0,
            subst (λ (c : ℕ). AreNeighbours g c parent.0) node.1.1 parent.1.1,
          ),
        ),
      ),
    )

-- a node's cell lies at most as many steps away from the first node's as its number says
reach : (g : Shape) (nodes : List Node) (first most k cell : ℕ) → AllHang g [] nodes → cell_at nodes 0 ≡ Some first → k ≤ most → cell_at nodes k ≡ Some cell →
    flat (place_at g first) (place_at g cell) ≤ k
reach g nodes first zero k cell hanging root few is = reach-root g nodes first k cell root (omega arith) is
reach g nodes first (suc most) k cell hanging root few is = elim (cases_eq k 0) [
  | inl start ↦ reach-root g nodes first k cell root start is
  | inr other ↦
      let hung = hung-at g nodes k cell hanging (omega arith) is in
      let earlier = hung.1.1.0 in
      let near = reach g nodes first most hung.0 hung.1.0 hanging root (omega arith) hung.1.1.1.0 in
      let far = further g first hung.1.0 cell hung.0 near hung.1.1.1.1 in
      below (flat (place_at g first) (place_at g cell)) hung.0 k far earlier
]
  where
    below : (d parent k : ℕ) → d ≤ parent + 1 → parent < k → d ≤ k
    below d parent k far earlier = omega arith

-- the two cells of a node with an edge
edge-parts : (g : Shape) (cell : ℕ) (o : Option ℕ) (e : Edge) → option_and_then (λ other. edge_of g cell other) o ≡ Some e →
    (other : ℕ) × ((o ≡ Some other) × (edge_of g cell other ≡ Some e))
edge-parts g cell None e is = absurd (none-some e is)
edge-parts g cell (Some other) e is = (other, (refl, is))

-- the low end of a tree's edge is the cell of some node
low-at : (t : TreeView) (e : Edge) → IsTree t → IsTrue (edges_of t e) → (k : ℕ) × ((k < length t.nodes) × (cell_at t.nodes k ≡ Some e.low))
low-at t e tree there =
    let given = gives (edge_to_parent t.shape t.nodes) e t.nodes there in
    let node = given.1.0 in
    let own = read-cell t.nodes given.0 node given.1.1.0 in
    let parts = edge-parts t.shape node.cell (cell_at t.nodes node.parent) e given.1.1.1 in
    let joins = joins-of t.shape node.cell parts.0 e (cell-inside t.shape t.nodes given.0 node.cell tree.hanging own)
    (cell-inside t.shape t.nodes node.parent parts.0 tree.hanging parts.1.0) parts.1.1 in
    elim joins.ends [
      | inl ends ↦ at given.0 node.cell (sym ends.0) own
      | inr ends ↦ at node.parent parts.0 (sym ends.0) parts.1.0
    ]
  where
    at : (k c : ℕ) → c ≡ e.low → cell_at t.nodes k ≡ Some c → (k : ℕ) × ((k < length t.nodes) × (cell_at t.nodes k ≡ Some e.low))
    at k c low is = (k, (cell_at-within t.nodes k c is, subst (λ (n : ℕ). cell_at t.nodes k ≡ Some n) low is))

-- along a line a place lies no further outside a stretch than from each number in it
outside-line : (from to a b : ℕ) → from ≤ b → b ≤ to → max (from - a) (a - to) ≤ gap a b
outside-line from to a b low high = omega arith

within-parts : (w : Window) (c : Cell) → IsTrue (is_within w c) → ((w.x0 ≤ c.x) × (c.x ≤ w.x1)) × ((w.y0 ≤ c.y) × (c.y ≤ w.y1))
within-parts w c within = ((grind (arith, nat_tests), grind (arith, nat_tests)), (grind (arith, nat_tests), grind (arith, nat_tests)))

outside-most : (w : Window) (p q : Cell) → IsTrue (is_within w q) → outside w p ≤ flat p q
outside-most w p q within =
    let parts = within-parts w q within in
    both (max (w.x0 - p.x) (p.x - w.x1)) (max (w.y0 - p.y) (p.y - w.y1)) (gap p.x q.x) (gap p.y q.y)
    (outside-line w.x0 w.x1 p.x q.x parts.0.0 parts.0.1) (outside-line w.y0 w.y1 p.y q.y parts.1.0 parts.1.1)
  where
    both : (a b c d : ℕ) → a ≤ c → b ≤ d → a + b ≤ c + d
    both a b c d first second = omega arith

-- no edge of a tree begins in a window that is at least as many steps away from the first cell as the tree has nodes
pub begins-none : (t : TreeView) (w : Window) (first : ℕ) → IsTree t → cell_at t.nodes 0 ≡ Some first → length t.nodes ≤ outside w (place_at t.shape first) → BeginsNone t w
begins-none t w first tree root far = λ e there. elim (cases_Bool (in_window t.shape w e.low)) [
  | inl within ↦
      let low = low-at t e tree there in
      let near = reach t.shape t.nodes first low.0 low.0 e.low tree.hanging root (omega arith) low.1.1 in
      let most = outside-most w (place_at t.shape first) (place_at t.shape e.low) (second (nat_lt e.low (cells_of t.shape)) (is_within w (place_at t.shape e.low)) within) in
      absurd (apart (outside w (place_at t.shape first)) (flat (place_at t.shape first) (place_at t.shape e.low)) low.0 (length t.nodes) most near low.1.0 far)
  | inr other ↦ other
]
  where
    second : (a b : Bool) → (a && b) ≡ true → b ≡ true
    second true b is = is
    second false b is = absurd (both_ways false refl is)

    apart : (out steps k n : ℕ) → out ≤ steps → steps ≤ k → k < n → n ≤ out → ⊥
    apart out steps k n most near below far = omega arith
