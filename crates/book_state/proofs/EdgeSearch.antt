-- The search for an edge along the nodes of a tree.
use Rattle.std.proofs.Common.{◌≡◌, ℕ, suc, zero, ◌+◌, ◌<◌, ◌≤◌, Bool, true, false, ◌||◌, List, [], ◌∷◌, length, drop, Option, Some, None, slice_get, slice_index_or, cond, if◌then◌else◌, IsTrue, refl, sym, ap, subst, ◌∙◌, arith}
use Rattle.std.proofs.lemmas.Option.{none-some}
use Rattle.std.specs.List.{filter_map, cons_option, find, list_any}
use Rattle.std.specs.Option.{option_and_then}
use Rattle.gr_base.specs.Grid.{has_edge, is_wire}
use Rattle.gr_base.specs.Trees.{TreeView, IsTree, edge_to_parent}
use Rattle.gr_base.specs.declared.grid.Edge.{Edge}
use Rattle.gr_base.specs.declared.grid.Shape.{Shape}
use Rattle.gr_base.specs.declared.tree.Node.{Node}
use Rattle.grid_demand.proofs.LoadSteps.{node-at, next-wire}
use Rattle.grid_demand.specs.Tables.{CapacityView}
use Rattle.gr_base.specs.ParentEdges.{wire_only, wire_to_parent}
use Rattle.gr_base.specs.Sums.{wire_number}
use Rattle.book_state.specs.Books.{is_full}
use Rattle.book_state.specs.Crowds.{is_overfull}

-- the edges to their parents of a tree's nodes from one on
abbrev pub edges_from : TreeView → ℕ → List Edge
edges_from t k = filter_map (edge_to_parent t.shape t.nodes) (drop k t.nodes)

-- the edge from a node to its parent, if it has one
abbrev pub edge_at_node : TreeView → ℕ → Option Edge
edge_at_node t k = option_and_then (edge_to_parent t.shape t.nodes) (slice_get t.nodes k)

drop-node : (nodes : List Node) (k : ℕ) (node : Node) → slice_get nodes k ≡ Some node → drop k nodes ≡ node ∷ drop (k + 1) nodes
drop-node [] k node is = absurd (cc)
drop-node (x ∷ xs) zero node is = let e : x ≡ node = cc in ap (λ (y : Node). y ∷ xs) e
drop-node (x ∷ xs) (suc k) node is =
    let more : suc k + 1 ≡ suc (k + 1) = omega arith in
    drop-node xs k node is ∙ ap (λ (n : ℕ). node ∷ drop n (x ∷ xs)) (sym more)

edges-next : (t : TreeView) (k : ℕ) → k < length t.nodes → edges_from t k ≡ cons_option (edge_at_node t k) (edges_from t (k + 1))
edges-next t k below =
    let node = node-at t k below in
    ap (λ (ns : List Node). filter_map (edge_to_parent t.shape t.nodes) ns) (drop-node t.nodes k node.0 node.1)
    ∙ ap (λ (o : Option Node). cons_option (option_and_then (edge_to_parent t.shape t.nodes) o) (edges_from t (k + 1))) (sym node.1)

-- a node whose wire edge is found has just this edge
wire-node : (t : TreeView) (k : ℕ) (e : Edge) → Some e ≡ wire_to_parent t k → Some e ≡ edge_at_node t k
wire-node t k e is = only (edge_at_node t k) is
  where
    tested : (b : Bool) (a : Edge) → Some e ≡ (if b then Some a else None) → Some e ≡ Some a
    tested true a is = is
    tested false a is = absurd (none-some e (sym is))

    only : (o : Option Edge) → Some e ≡ wire_only o → Some e ≡ o
    only None is = absurd (none-some e (sym is))
    only (Some a) is = tested (is_wire a) a is

some-here : (t : TreeView) (k : ℕ) (e : Edge) → k < length t.nodes → Some e ≡ wire_to_parent t k → edges_from t k ≡ e ∷ edges_from t (k + 1)
some-here t k e below is = edges-next t k below ∙ ap (λ (o : Option Edge). cons_option o (edges_from t (k + 1))) (sym (wire-node t k e is))

-- it is a wire edge of the grid
pub wire-inside : (t : TreeView) (g : Shape) (k : ℕ) (e : Edge) → IsTree t → t.shape ≡ g → k < length t.nodes → Some e ≡ wire_to_parent t k →
    IsTrue (has_edge g e) × IsTrue (is_wire e)
wire-inside t g k e tree shape below is =
    let next = next-wire t k e tree below (sym is) in
    (subst (λ (s : Shape). IsTrue (has_edge s e)) shape next.edge, next.wire)

-- only wire edges pass the test
abbrev pub PassWires : (Edge → Bool) → Type 0
PassWires p = (e : Edge) → is_wire e ≡ false → p e ≡ false

pub full-wires : (c : CapacityView) (demands : Edge → ℕ) (net slack : ℕ) → PassWires (is_full c demands net slack)
full-wires c demands net slack e via = rw via refl

pub table-wires : (over : List Bool) → PassWires (is_overfull over)
table-wires over e via = rw via refl

-- of a wire edge the table says what stands in it
pub table-says : (over : List Bool) (e : Edge) (said : Bool) → IsTrue (is_wire e) → slice_index_or over (wire_number e) false ≡ said → is_overfull over e ≡ said
table-says over e said wire there = rw wire there

not-wire : (b : Bool) (e : Edge) → None ≡ (if b then Some e else None) → b ≡ false
not-wire true e none = absurd (none-some e none)
not-wire false e none = refl

-- a search that takes the nodes in order: at a node without a wire edge, at one whose wire edge fails, at one whose wire edge passes, and at the end
pub find-over : (p : Edge → Bool) (t : TreeView) (k : ℕ) → PassWires p → k < length t.nodes → None ≡ wire_to_parent t k → find p (edges_from t k) ≡ find p (edges_from t (k + 1))
find-over p t k wires below none = ap (find p) (edges-next t k below) ∙ over (edge_at_node t k) (edges_from t (k + 1)) none
  where
    over : (o : Option Edge) (rest : List Edge) → None ≡ wire_only o → find p (cons_option o rest) ≡ find p rest
    over None rest none = refl
    over (Some e) rest none = ap (λ (b : Bool). cond b (Some e) (find p rest)) (wires e (not-wire (is_wire e) e none))

pub any-over : (p : Edge → Bool) (t : TreeView) (k : ℕ) → PassWires p → k < length t.nodes → None ≡ wire_to_parent t k → list_any p (edges_from t k) ≡ list_any p (edges_from t (k + 1))
any-over p t k wires below none = ap (list_any p) (edges-next t k below) ∙ over (edge_at_node t k) (edges_from t (k + 1)) none
  where
    over : (o : Option Edge) (rest : List Edge) → None ≡ wire_only o → list_any p (cons_option o rest) ≡ list_any p rest
    over None rest none = refl
    over (Some e) rest none = ap (λ (b : Bool). b || list_any p rest) (wires e (not-wire (is_wire e) e none))

pub find-fails : (p : Edge → Bool) (t : TreeView) (k : ℕ) (e : Edge) → k < length t.nodes → Some e ≡ wire_to_parent t k → p e ≡ false → find p (edges_from t k) ≡ find p (edges_from t (k + 1))
find-fails p t k e below is fails = ap (find p) (some-here t k e below is) ∙ ap (λ (b : Bool). cond b (Some e) (find p (edges_from t (k + 1)))) fails

pub find-passes : (p : Edge → Bool) (t : TreeView) (k : ℕ) (e : Edge) → k < length t.nodes → Some e ≡ wire_to_parent t k → p e ≡ true → find p (edges_from t k) ≡ Some e
find-passes p t k e below is passes = ap (find p) (some-here t k e below is) ∙ ap (λ (b : Bool). cond b (Some e) (find p (edges_from t (k + 1)))) passes

pub any-fails : (p : Edge → Bool) (t : TreeView) (k : ℕ) (e : Edge) → k < length t.nodes → Some e ≡ wire_to_parent t k → p e ≡ false → list_any p (edges_from t k) ≡ list_any p (edges_from t (k + 1))
any-fails p t k e below is fails = ap (list_any p) (some-here t k e below is) ∙ ap (λ (b : Bool). b || list_any p (edges_from t (k + 1))) fails

pub any-passes : (p : Edge → Bool) (t : TreeView) (k : ℕ) (e : Edge) → k < length t.nodes → Some e ≡ wire_to_parent t k → p e ≡ true → list_any p (edges_from t k) ≡ true
any-passes p t k e below is passes = ap (list_any p) (some-here t k e below is) ∙ ap (λ (b : Bool). b || list_any p (edges_from t (k + 1))) passes

drop-end : (nodes : List Node) (k : ℕ) → length nodes ≤ k → drop k nodes ≡ []
drop-end [] zero long = refl
drop-end [] (suc k) long = refl
drop-end (x ∷ xs) zero long = absurd (omega arith)
drop-end (x ∷ xs) (suc k) long = drop-end xs k (omega arith)

pub edges-end : (t : TreeView) (k : ℕ) → length t.nodes ≤ k → edges_from t k ≡ []
edges-end t k long = ap (λ (ns : List Node). filter_map (edge_to_parent t.shape t.nodes) ns) (drop-end t.nodes k long)
