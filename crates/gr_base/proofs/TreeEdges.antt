-- The edges of trees: they are the grid's, and join all cells.
use Rattle.std.proofs.Common.{◌≡◌, ℕ, suc, zero, ◌<◌, inl, inr, Bool, true, false, ◌||◌, ◌==◌, min, List, [], ◌∷◌, ◌++◌, length, get_or, All, Option, Some, None, is_some, slice_get, IfSome, if◌then◌else◌, IsTrue, refl, sym, ap, subst, ◌∙◌, append_assoc, arith}
use Rattle.std.proofs.lemmas.Bool.{cases_Bool, cases_eq, eqb-true, eq-eqb, and_from, or_cases, or_right, both_ways}
use Rattle.std.proofs.lemmas.Bool.Decides.{nat_tests}
use Rattle.std.proofs.lemmas.List.{append-nil, length-append}
use Rattle.std.proofs.lemmas.List.Elements.{filter_map-append, All-cons}
use Rattle.std.proofs.lemmas.List.Folds.{list_any-append}
use Rattle.std.proofs.lemmas.Option.{none-some, same_Some}
use Rattle.std.specs.List.{list_any, filter_map, cons_option}
use Rattle.std.specs.Option.{option_map, option_and_then}
use Rattle.gr_base.specs.Grid.{cells_of, place_at, steps_between, AreNeighbours, way_between, edge_at, edge_of, has_edge, Joins}
use Rattle.gr_base.specs.EdgeSets.{Edges, is_way, is_edge, set_of, Leads, IsJoined}
use Rattle.gr_base.specs.EdgeSets.Leads.{Stays, Goes_on}
use Rattle.gr_base.specs.Trees.{TreeView, has_cell, cell_at, parent_at, node_with, holds, IsParent, AllHang, IsTree, edge_to_parent, edges_of, HasGridEdges, IsConnected}
use Rattle.gr_base.specs.declared.grid.Edge.{Edge}
use Rattle.gr_base.specs.declared.grid.Shape.{Shape}
use Rattle.gr_base.specs.declared.grid.Way.{Way}
use Rattle.gr_base.specs.declared.grid.Way.TheVariants.{East, North, Up}
use Rattle.gr_base.specs.declared.tree.Node.{Node}
use Rattle.gr_base.proofs.General.{eqb-swap}
use Rattle.gr_base.proofs.GridLemmas.{edge_of-joins}
use Rattle.gr_base.proofs.TreeLemmas.{node_from_cell, cell_at-append, parent-of, found-any, found-append, cell-inside, hangs-at}

-- the choice that `edge_of` makes, on plain values
alike : (s t l m : ℕ) (v w : Way) → s ≡ t → l ≡ m → v ≡ w →
    (if s == 1 then Some (edge_at l v) else None) ≡ (if t == 1 then Some (edge_at m w) else None)
alike s t l m v w steps low way = rw (steps, low, way) refl

by_tests : (x y p q : Bool) → x ≡ p → y ≡ q →
    (if x then (if y then Up else North) else East) ≡ (if p then (if q then Up else North) else East)
by_tests x y p q first second = rw (first, second) refl

-- the edge between two cells doesn't depend on their order
pub edge_of-swap : (g : Shape) (a b : ℕ) → edge_of g a b ≡ edge_of g b a
edge_of-swap g a b =
    let steps : steps_between g a b ≡ steps_between g b a = omega arith in
    let low : min a b ≡ min b a = omega arith in
    let way : way_between g a b ≡ way_between g b a =
    by_tests ((place_at g a).x == (place_at g b).x) ((place_at g a).y == (place_at g b).y) ((place_at g b).x == (place_at g a).x) ((place_at g b).y == (place_at g a).y)
    (eqb-swap (place_at g a).x (place_at g b).x) (eqb-swap (place_at g a).y (place_at g b).y) in
    alike (steps_between g a b) (steps_between g b a) (min a b) (min b a) (way_between g a b) (way_between g b a) steps low way

-- no edge leads from a cell to itself
pub edge_of-self : (g : Shape) (a : ℕ) → edge_of g a a ≡ None
edge_of-self g a =
    let steps : steps_between g a a ≡ 0 = omega arith in
    alike (steps_between g a a) 0 (min a a) (min a a) (way_between g a a) (way_between g a a) steps refl refl

-- an edge leads from a cell to its neighbour
pub edge_of-some : (g : Shape) (a b : ℕ) → AreNeighbours g a b → (e : Edge) × (edge_of g a b ≡ Some e)
edge_of-some g a b one = (
  edge_at (min a b) (way_between g a b),
  alike (steps_between g a b) 1 (min a b) (min a b) (way_between g a b) (way_between g a b) one refl refl,
)

-- cells that an edge joins are neighbours
pub near-from : (g : Shape) (a b : ℕ) (e : Edge) → edge_of g a b ≡ Some e → AreNeighbours g a b
near-from g a b e is =
    elim (cases_eq (steps_between g a b) 1) [
      | inl one ↦ one
      | inr other ↦
          let test : (steps_between g a b == 1) ≡ false = grind (arith, nat_tests) in
          let none : edge_of g a b ≡ None = rw test refl in
          absurd (none-some e (sym none ∙ is))
    ]

-- walks one after the other
pub Leads-join : {g : Shape} {set : Edges} {a b c : ℕ} → Leads g set a b → Leads g set b c → Leads g set a c
Leads-join first Stays = first
Leads-join {g = g} {set = set} first (Goes_on walk edge inside) = Goes_on (Leads-join first walk) edge inside

pub is_way-refl : (way : Way) → is_way way way ≡ true
is_way-refl East = refl
is_way-refl North = refl
is_way-refl Up = refl

pub is_edge-refl : (e : Edge) → is_edge e e ≡ true
is_edge-refl e = and_from (e.low == e.low) (is_way e.way e.way) (eq-eqb e.low e.low refl) (is_way-refl e.way)

-- what an item gives is among what the list gives
given : (f : Node → Option Edge) (before after : List Node) (node : Node) (e : Edge) → f node ≡ Some e →
    set_of (filter_map f (before ++ node ∷ after)) e ≡ true
given f before after node e is =
    let whole : set_of (filter_map f (before ++ node ∷ after)) e ≡ (set_of (filter_map f before) e || set_of (filter_map f (node ∷ after)) e) =
    ap (λ (es : List Edge). list_any (is_edge e) es) (filter_map-append f before (node ∷ after))
    ∙ list_any-append (is_edge e) (filter_map f before) (filter_map f (node ∷ after)) in
    let head : set_of (filter_map f (node ∷ after)) e ≡ true =
    ap (λ (o : Option Edge). list_any (is_edge e) (cons_option o (filter_map f after))) is
    ∙ ap (λ (b : Bool). b || list_any (is_edge e) (filter_map f after)) (is_edge-refl e) in
    whole ∙ or_right (set_of (filter_map f before) e) (set_of (filter_map f (node ∷ after)) e) head

-- walks lead from a cell to each cell of some nodes, and back
Reached : Shape → Edges → ℕ → List Node → Type 0
Reached g set root nodes = (cell : ℕ) → is_some (node_with nodes cell) ≡ true → Leads g set root cell × Leads g set cell root

abbrev Both : Shape → Edges → ℕ → ℕ → Type 0
Both g set root cell = Leads g set root cell × Leads g set cell root

any-at : (xs : List Node) (k cell : ℕ) → cell_at xs k ≡ Some cell → list_any (has_cell cell) xs ≡ true
any-at [] k cell is = absurd (none-some cell is)
any-at (x ∷ xs) zero cell is =
    ap (λ (b : Bool). b || list_any (has_cell cell) xs) (eq-eqb x.cell cell (same_Some x.cell cell is))
any-at (x ∷ xs) (suc k) cell is = or_right (x.cell == cell) (list_any (has_cell cell) xs) (any-at xs k cell is)

-- the cell of a node is found
pub found-at : (xs : List Node) (k cell : ℕ) → cell_at xs k ≡ Some cell → is_some (node_with xs cell) ≡ true
found-at xs k cell is = found-any 0 xs cell ∙ any-at xs k cell is

-- the one cell of a list of one node
found-one : (node : Node) (cell : ℕ) → is_some (node_with (node ∷ []) cell) ≡ true → node.cell ≡ cell
found-one node cell is =
    elim (cases_Bool (node.cell == cell)) [
      | inl same ↦ eqb-true node.cell cell same
      | inr other ↦
          let none : is_some (node_with (node ∷ []) cell) ≡ false = rw other refl in
          absurd (both_ways (is_some (node_with (node ∷ []) cell)) none is)
    ]

reached-push : (g : Shape) (set : Edges) (root : ℕ) (nodes : List Node) (node : Node) → Reached g set root nodes →
    Both g set root node.cell → Reached g set root (nodes ++ node ∷ [])
unfolding Reached
reached-push g set root nodes node reached both = λ cell found.
    elim (or_cases (is_some (node_with nodes cell)) (is_some (node_with (node ∷ []) cell)) (sym (found-append nodes (node ∷ []) cell) ∙ found)) [
      | inl old ↦ reached cell old
      | inr new ↦ subst (λ (c : ℕ). Both g set root c) (found-one node cell new) both
    ]

-- the edges of some nodes
abbrev edges : Shape → List Node → Edges
edges g nodes = set_of (filter_map (edge_to_parent g nodes) nodes)

-- the cell of a node that hangs on some is reached as its parent's is
reached-node : (g : Shape) (whole before after : List Node) (root : ℕ) (node : Node) → whole ≡ before ++ node ∷ after →
    0 < length before → Reached g (edges g whole) root before → IsParent g before node → Both g (edges g whole) root node.cell
unfolding Reached
reached-node g whole before after root node is some reached hangs =
    let parent = parent-of g before node some hangs in
    let P : List Node → Type 0 = λ ns. cell_at ns node.parent ≡ Some parent.0 in
    let at = subst P (sym is) (cell_at-append before (node ∷ after) node.parent parent.0 parent.1.0) in
    let edge = edge_of-some g node.cell parent.0 parent.1.1 in
    let to : edge_to_parent g whole node ≡ Some edge.0 = ap (λ (o : Option ℕ). option_and_then (λ cell. edge_of g node.cell cell) o) at ∙ edge.1 in
    let Q : List Node → Type 0 = λ ns. set_of (filter_map (edge_to_parent g whole) ns) edge.0 ≡ true in
    let inside = subst Q (sym is) (given (edge_to_parent g whole) before after node edge.0 to) in
    let near = reached parent.0 (found-at before node.parent parent.0 parent.1.0) in (
      Goes_on near.0 (edge_of-swap g parent.0 node.cell ∙ edge.1) inside,
      Leads-join (Goes_on Stays edge.1 inside) near.1,
    )

reached-all : (g : Shape) (whole before after : List Node) (root : ℕ) → whole ≡ before ++ after →
    0 < length before → Reached g (edges g whole) root before → AllHang g before after → Reached g (edges g whole) root whole
reached-all g whole before [] root is some reached hanging =
    let P : List Node → Type 0 = λ ns. Reached g (edges g whole) root ns in
    subst P (sym (is ∙ append-nil before)) reached
reached-all g whole before (node ∷ after) root is some reached hanging =
    let both = reached-node g whole before after root node is some reached hanging.0.parent in
    let more = reached-push g (edges g whole) root before node reached both in
    reached-all g whole (before ++ node ∷ []) after root (is ∙ sym (append_assoc before (node ∷ []) after))
    (omega (arith, length-append before (node ∷ []))) more hanging.1

-- from a tree's first cell walks lead to each of its cells, and back
reached : (g : Shape) (root : Node) (others : List Node) → AllHang g (root ∷ []) others →
    Reached g (edges g (root ∷ others)) root.cell (root ∷ others)
unfolding Reached
reached g root others hanging =
    let set : Edges = edges g (root ∷ others) in
    reached-all g (root ∷ others) (root ∷ []) others root.cell refl (omega arith)
    (λ cell found. subst (λ (c : ℕ). Both g set root.cell c) (found-one root cell found) (Stays, Stays)) hanging

-- any two cells of a tree are joined along its edges
connected-nodes : (g : Shape) (nodes : List Node) → AllHang g [] nodes → (a b : ℕ) →
    is_some (node_with nodes a) ≡ true → is_some (node_with nodes b) ≡ true → Leads g (edges g nodes) a b
unfolding Reached
connected-nodes g [] hanging a b from to = absurd (both_ways false refl from)
connected-nodes g (root ∷ others) hanging a b from to =
    let all = reached g root others hanging.1 in Leads-join (all a from).1 (all b to).0

pub tree-connected : (t : TreeView) → IsTree t → IsConnected t
tree-connected t tree = λ a b from to. connected-nodes t.shape t.nodes tree.hanging a b from to

if_some : (o : Option Edge) (P Q : Edge → Type 0) → ((e : Edge) → P e → Q e) → IfSome o P → IfSome o Q
if_some None P Q follows h = tt
if_some (Some e) P Q follows h = follows e h

-- the edge from a node of a tree to its parent is one of the grid's
node-edge : (g : Shape) (nodes : List Node) (node : Node) (o : Option ℕ) → AllHang g [] nodes → node.cell < cells_of g →
    cell_at nodes node.parent ≡ o → IfSome (option_and_then (λ cell. edge_of g node.cell cell) o) (λ e. IsTrue (has_edge g e))
node-edge g nodes node None hanging inside at = tt
node-edge g nodes node (Some cell) hanging inside at =
    if_some (edge_of g node.cell cell) (λ e. Joins g e node.cell cell) (λ e. IsTrue (has_edge g e)) (λ e joins. joins.edge)
    (edge_of-joins g node.cell cell inside (cell-inside g nodes node.parent cell hanging at))

All-given_one : (P : Edge → Type 0) (o : Option Edge) (es : List Edge) → IfSome o P → All P es → All P (cons_option o es)
All-given_one P None es h rest = rest
All-given_one P (Some e) es h rest = All-cons P e es h rest

All-given : (P : Edge → Type 0) (f : Node → Option Edge) (xs : List Node) →
    ((k : ℕ) (x : Node) → slice_get xs k ≡ Some x → IfSome (f x) P) → All P (filter_map f xs)
All-given P f [] each = λ k d below. absurd (omega arith)
All-given P f (x ∷ xs) each =
    All-given_one P (f x) (filter_map f xs) (each zero x refl) (All-given P f xs (λ k y is. each (suc k) y is))

pub tree-grid_edges : (t : TreeView) → IsTree t → HasGridEdges t
tree-grid_edges t tree =
    All-given (λ e. IsTrue (has_edge t.shape e)) (edge_to_parent t.shape t.nodes) t.nodes (λ k node is.
    node-edge t.shape t.nodes node (cell_at t.nodes node.parent) tree.hanging (hangs-at t.shape t.nodes k node tree.hanging is).inside refl)

-- a tree that holds each pin's cell joins the pins
pub joins-pins : (t : TreeView) (pins : List ℕ) → IsTree t → All (λ pin. IsTrue (holds t pin)) pins → IsJoined t.shape (edges_of t) pins
joins-pins t [] tree held = tt
joins-pins t (first ∷ pins) tree held = λ k d below.
    tree-connected t tree first (get_or (first ∷ pins) k d) (held 0 d (omega arith)) (held k d below)

-- the edge of a node, by the cells of the node and its parent
pub edge-at : (g : Shape) (nodes : List Node) (k cell parent other : ℕ) → cell_at nodes k ≡ Some cell → parent_at nodes k ≡ Some parent →
    cell_at nodes parent ≡ Some other → option_and_then (edge_to_parent g nodes) (slice_get nodes k) ≡ edge_of g cell other
edge-at g nodes k cell parent other is hangs at =
    let found = node_from_cell nodes k cell is in
    let node : Node = found.0 in
    let own : parent_at nodes k ≡ Some node.parent = ap (λ (o : Option Node). option_map (λ (n : Node). n.parent) o) found.1.0 in
    let up : node.parent ≡ parent = same_Some node.parent parent (sym own ∙ hangs) in
    ap (λ (o : Option Node). option_and_then (edge_to_parent g nodes) o) found.1.0
    ∙ ap (λ (i : ℕ). option_and_then (λ c. edge_of g node.cell c) (cell_at nodes i)) up
    ∙ ap (λ (o : Option ℕ). option_and_then (λ c. edge_of g node.cell c) o) at
    ∙ ap (λ (c : ℕ). edge_of g c other) found.1.1
