-- What is counted of a tree, and when its edges join pins.
use Rattle.std.proofs.Common.{◌≡◌, ◌↔◌, ◌⊎◌, ℕ, ◌+◌, ◌*◌, ◌<◌, ◌≤◌, ◌==◌, ◌||◌, inl, inr, Bool, true, false, not, cond, List, [], ◌∷◌, ◌++◌, length, map, get_or, All, count_by, Option, Some, IsTrue, refl, sym, ap, subst, ◌∙◌, arith}
use Rattle.std.proofs.Math.Path.{fun_ext}
use Rattle.std.specs.List.{list_all}
use Rattle.std.specs.Option.{option_and_then, option_to_list}
use Rattle.std.proofs.lemmas.Bool.{cases_Bool, or_cases, or_left, or_right, and_from, eqb-true, eq-eqb, both_ways}
use Rattle.std.proofs.lemmas.Bool.Decides.{nat_tests}
use Rattle.std.proofs.lemmas.List.{length-map}
use Rattle.std.proofs.lemmas.List.Elements.{All-head, All-tail}
use Rattle.std.proofs.lemmas.List.Sums.{sum_by-append, sum_by-cons}
use Rattle.gr_base.specs.EdgeSets.{Edges, is_edge, set_of, Leads, Stays, Goes_on, IsJoined}
use Rattle.gr_base.specs.Grid.{cells_of, is_wire, is_wire_way}
use Rattle.gr_base.specs.ParentEdges.{parent_edge}
use Rattle.gr_base.specs.Sums.{wire_edges, via_edges}
use Rattle.gr_base.specs.Trees.{TreeView, IsTree, edge_to_parent, edges_of, holds, tree_edges}
use Rattle.gr_base.specs.declared.grid.Edge.{Edge}
use Rattle.gr_base.specs.declared.grid.Way.{Way}
use Rattle.gr_base.specs.declared.grid.Way.TheVariants.{East, North, Up}
use Rattle.gr_base.specs.declared.tree.Node.{Node}
use Rattle.gr_base.proofs.GridLemmas.{joins-swap}
use Rattle.gr_base.proofs.TreeDistinct.{tree-distinct_edges}
use Rattle.gr_base.proofs.TreeEdges.{tree-grid_edges, joins-pins}
use Rattle.grid_demand.proofs.CapacityLemmas.{take-next}
use Rattle.grid_demand.proofs.LoadSteps.{node-at, tree-edge}
use Rattle.grid_demand.proofs.TreeTimes.{edges_before, edges_before-more}
use Rattle.solution_text.specs.Runs.{LieIn}
use Rattle.route_evaluator.specs.EdgeNumbers.{edge_number, way_number, edge_numbered, edges_numbered, is_via_number}
use Rattle.route_evaluator.specs.NetCounts.{IsCountOf}
use Rattle.route_evaluator.specs.declared.net_count.NetCount.{NetCount}
use Rattle.route_evaluator.proofs.CountLemmas.{times, vias-count, wires-count}
use Rattle.route_evaluator.proofs.EdgeNumberLemmas.{number-numbered, is_edge-number}
use Rattle.route_evaluator.proofs.FloodLemmas.{joined, joins-inside}
use Rattle.route_evaluator.proofs.NetTreeLemmas.{All-pins}
use Rattle.route_evaluator.proofs.TreePaths.{ends-held}

-- ---- the edges of a tree, node after node

abbrev pub is_up : Edge → Bool
is_up e = not (is_wire e)

-- one more node adds the edge to its parent
pub ways-next : (p : Edge → Bool) (t : TreeView) (k : ℕ) (o : Option Edge) → k < length t.nodes → o ≡ parent_edge t k →
    count_by p (edges_before t (k + 1)) ≡ count_by p (edges_before t k) + count_by p (option_to_list o)
ways-next p t k o below is =
    let node = node-at t k below in
    let gives : edge_to_parent t.shape t.nodes node.0 ≡ o = sym (is ∙ ap (λ (n : Option Node). option_and_then (edge_to_parent t.shape t.nodes) n) node.1) in
    ap (λ (es : List Edge). count_by p es)
    (edges_before-more t k node.0 node.1 (take-next t.nodes k node.0 node.1) ∙ ap (λ (e : Option Edge). edges_before t k ++ option_to_list e) gives)
    ∙ sum_by-append (λ (e : Edge). cond (p e) 1 0) (edges_before t k) (option_to_list o)

-- a node whose edge counts so much
pub edge-counts : (p : Edge → Bool) (t : TreeView) (k : ℕ) (o : Option Edge) (e : Edge) (b : Bool) (old new : ℕ) → k < length t.nodes → o ≡ parent_edge t k →
    o ≡ Some e → p e ≡ b → old ≡ count_by p (edges_before t k) → new ≡ old + cond b 1 0 → new ≡ count_by p (edges_before t (k + 1))
edge-counts p t k o e b old new below is some test before more =
    let next = ways-next p t k o below is in
    let one : count_by p (option_to_list o) ≡ cond b 1 0 =
    ap (λ (e' : Option Edge). count_by p (option_to_list e')) some ∙ sum_by-cons (λ (f : Edge). cond (p f) 1 0) e [] ∙ omega arith
    ∙ ap (λ (c : Bool). cond {A = ℕ} c 1 0) test in
    omega (arith, next, one, before, more)

-- ---- the edges of a list and their numbers

edges-numbers : (edges : List Edge) (e : Edge) → edges_numbered (map edge_number edges) e ≡ set_of edges e
edges-numbers [] e = refl
edges-numbers (x ∷ xs) e =
    ap (λ (b : Bool). b || edges_numbered (map edge_number xs) e) (is_edge-number e x)
    ∙ ap (λ (b : Bool). is_edge e x || b) (edges-numbers xs e)

numbers-times : (edges : List Edge) (n : ℕ) → times (map edge_number edges) n ≡ count_by (is_edge (edge_numbered n)) edges
numbers-times [] n = refl
numbers-times (x ∷ xs) n =
    let one : (n == edge_number x) ≡ is_edge (edge_numbered n) x =
    ap (λ (m : ℕ). m == edge_number x) (sym (number-numbered n)) ∙ is_edge-number (edge_numbered n) x in
    let test : cond {A = ℕ} (n == edge_number x) 1 0 ≡ cond (is_edge (edge_numbered n) x) 1 0 = ap (λ (b : Bool). cond b 1 0) one in
    omega (
      arith,
      test,
      numbers-times xs n,
      sum_by-cons (λ (m : ℕ). cond (n == m) 1 0) (edge_number x) (map edge_number xs),
      sum_by-cons (λ (f : Edge). cond (is_edge (edge_numbered n) f) 1 0) x xs,
    )

via-at : (low : ℕ) (way : Way) → is_via_number (3 * low + way_number way) ≡ not (is_wire_way way)
via-at low East = grind (arith, nat_tests)
via-at low North = grind (arith, nat_tests)
via-at low Up = grind (arith, nat_tests)

numbers-vias : (edges : List Edge) → count_by is_via_number (map edge_number edges) ≡ count_by is_up edges
numbers-vias [] = refl
numbers-vias (x ∷ xs) =
    let test : cond {A = ℕ} (is_via_number (edge_number x)) 1 0 ≡ cond (is_up x) 1 0 = ap (λ (b : Bool). cond b 1 0) (via-at x.low x.way) in
    omega (
      arith,
      test,
      numbers-vias xs,
      sum_by-cons (λ (m : ℕ). cond (is_via_number m) 1 0) (edge_number x) (map edge_number xs),
      sum_by-cons (λ (f : Edge). cond (is_up f) 1 0) x xs,
    )

parted : (edges : List Edge) → length edges ≡ count_by is_wire edges + count_by is_up edges
parted [] = refl
parted (x ∷ xs) =
    let rest = parted xs in
    let first = one (is_wire x) in
    omega (arith, rest, first, sum_by-cons (λ (e : Edge). cond (is_wire e) 1 0) x xs, sum_by-cons (λ (e : Edge). cond (is_up e) 1 0) x xs)
  where
    one : (b : Bool) → 1 ≡ cond {A = ℕ} b 1 0 + cond {A = ℕ} (not b) 1 0
    one true = refl
    one false = refl

-- what is counted of a tree
pub tree-count : (t : TreeView) (pins : List ℕ) (c : NetCount) → IsTree t → c.wires ≡ count_by is_wire (tree_edges t) → c.vias ≡ count_by is_up (tree_edges t) →
    IsTrue c.joined ↔ IsJoined t.shape (edges_of t) pins → IsCountOf t.shape (edges_of t) pins c
tree-count t pins c tree wires vias joins =
    let numbers : List ℕ = map edge_number (tree_edges t) in
    let same : edges_numbered numbers ≡ edges_of t = fun_ext (edges-numbers (tree_edges t)) in
    let lie : LieIn t.shape (edges_of t) = λ e. tree-edge t e (tree-grid_edges t tree) in
    let inside : LieIn t.shape (edges_numbered numbers) = subst (λ (set : Edges). LieIn t.shape set) (sym same) lie in
    let once : (n : ℕ) → times numbers n ≤ 1 = λ n. let distinct = tree-distinct_edges t tree (edge_numbered n) in omega (arith, distinct, numbers-times (tree_edges t) n) in
    let up : c.vias ≡ count_by is_via_number numbers = vias ∙ sym (numbers-vias (tree_edges t)) in
    let whole = wires-count t.shape numbers inside once in
    let flat : c.wires ≡ count_by (edges_numbered numbers) (wire_edges t.shape) =
    omega (arith, whole, wires, vias, up, parted (tree_edges t), length-map (tree_edges t) edge_number) in
    record {
      wires = flat ∙ ap (λ (set : Edges). count_by set (wire_edges t.shape)) same;
      vias = up ∙ vias-count t.shape numbers inside once ∙ ap (λ (set : Edges). count_by set (via_edges t.shape)) same;
      joined = joins;
    }

-- ---- the cells to which a tree's edges lead

-- a walk along a tree's edges comes to a cell: it stays in its first cell, or both its ends are the tree's
record Comes (t : TreeView) (first cell : ℕ) : Type 0 where
  inside : cell < cells_of t.shape
  ends : (cell ≡ first) ⊎ ((holds t first ≡ true) × (holds t cell ≡ true))

comes : (t : TreeView) (first cell : ℕ) → IsTree t → first < cells_of t.shape → Leads t.shape (edges_of t) first cell → Comes t first cell
comes t first cell tree below Stays = record { inside = below; ends = inl refl }
comes t first cell tree below (Goes_on {b = b} {e = e} walk edge among) =
    let before = comes t first b tree below walk in
    let joins = joined t.shape b cell e before.inside edge (tree-edge t e (tree-grid_edges t tree) among) in
    let from = ends-held t tree e b cell among joins in
    let to = ends-held t tree e cell b among (joins-swap t.shape e b cell joins) in
    record {
      inside = joins-inside t.shape e b cell joins;
      ends = inr (
        elim before.ends [
          | inl same ↦ subst (λ (n : ℕ). holds t n ≡ true) same from
          | inr held ↦ held.0
        ],
        to,
      );
    }

all-tested : (P : ℕ → Type 0) (test : ℕ → Bool) (xs : List ℕ) → ((n : ℕ) → P n → test n ≡ true) → All P xs → list_all test xs ≡ true
all-tested P test [] tests all = refl
all-tested P test (x ∷ xs) tests all =
    and_from (test x) (list_all test xs) (tests x (All-head P x xs all)) (all-tested P test xs tests (All-tail P x xs all))

-- a tree's edges join pins where it holds them all, and where all are in one cell
pub tree-joins : (t : TreeView) (pins : List ℕ) → IsTree t → All (λ pin. pin < cells_of t.shape) pins → 0 < length pins →
    IsTrue (list_all (holds t) pins || list_all (λ pin. pin == get_or pins 0 0) pins) ↔ IsJoined t.shape (edges_of t) pins
tree-joins t [] tree inside some = absurd (omega arith)
tree-joins t (first ∷ rest) tree inside some = (
  λ is. elim (or_cases (list_all (holds t) (first ∷ rest)) (list_all (λ pin. pin == first) (first ∷ rest)) is) [
    | inl held ↦ joins-pins t (first ∷ rest) tree (All-pins (holds t) (first ∷ rest) held)
    | inr one ↦ λ k d below.
        let same : get_or (first ∷ rest) k d ≡ first = eqb-true _ first (All-pins (λ pin. pin == first) (first ∷ rest) one k d below) in
        subst (λ (n : ℕ). Leads t.shape (edges_of t) first n) (sym same) Stays
  ],
  λ leads. elim (cases_Bool (holds t first)) [
    | inl held ↦ or_left (list_all (holds t) (first ∷ rest)) (list_all (λ pin. pin == first) (first ∷ rest))
        (all-tested (Leads t.shape (edges_of t) first) (holds t) (first ∷ rest) (λ n walk. elim (comes t first n tree below walk).ends [
          | inl same ↦ ap (holds t) same ∙ held
          | inr both ↦ both.1
        ]) leads)
    | inr none ↦ or_right (list_all (holds t) (first ∷ rest)) (list_all (λ pin. pin == first) (first ∷ rest))
        (all-tested (Leads t.shape (edges_of t) first) (λ pin. pin == first) (first ∷ rest) (λ n walk. elim (comes t first n tree below walk).ends [
          | inl same ↦ eq-eqb n first same
          | inr both ↦ absurd (both_ways (holds t first) none both.0)
        ]) leads)
  ],
)
  where
    below : first < cells_of t.shape
    below = All-head (λ pin. pin < cells_of t.shape) first rest inside
