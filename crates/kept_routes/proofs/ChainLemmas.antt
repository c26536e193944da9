-- The path from a tree's first node to another passes the edges of all nodes above that one.
use Rattle.std.proofs.Common.{◌≡◌, ℕ, suc, zero, ◌<◌, ◌≤◌, ◌||◌, ◌==◌, inl, inr, Bool, true, false, List, [], ◌∷◌, ◌++◌, Option, Some, None, slice_get, refl, sym, ap, subst, ◌∙◌, append-nil, arith}
use Rattle.std.specs.List.{cons_option, filter_map}
use Rattle.std.specs.Option.{option_and_then, option_map, option_to_list}
use Rattle.std.proofs.Math.Bool.{or-false}
use Rattle.std.proofs.lemmas.Bool.{or_cases, or_left, or_right, eqb-true, false≢true, false_from_ne_true}
use Rattle.std.proofs.lemmas.List.{append_assoc}
use Rattle.std.proofs.lemmas.List.Folds.{list_any-append}
use Rattle.std.proofs.lemmas.Option.{none-some, same_Some}
use Rattle.gr_base.specs.EdgeSets.{Edges, is_edge, set_of}
use Rattle.gr_base.specs.Grid.{edge_of}
use Rattle.gr_base.specs.ParentEdges.{parent_edge}
use Rattle.gr_base.specs.Trees.{TreeView, IsTree, cell_at, edge_to_parent, edges_of, is_among, parent_at, walk_edges}
use Rattle.gr_base.specs.declared.grid.Edge.{Edge}
use Rattle.gr_base.specs.declared.grid.Shape.{Shape}
use Rattle.gr_base.specs.declared.tree.Node.{Node}
use Rattle.gr_base.proofs.General.{eqb-swap}
use Rattle.gr_base.proofs.TreeDistinct.{is_edge-same, joins-of}
use Rattle.gr_base.proofs.TreeEdges.{edge-at, edge_of-swap, is_edge-refl}
use Rattle.gr_base.proofs.TreeGrowth.{parent-held}
use Rattle.gr_base.proofs.TreeLemmas.{cell-inside, cell-only, node_from_cell, parent-earlier}
use Rattle.gr_base.proofs.ParentEdgeLemmas.{parent-some}
use Rattle.gr_base.proofs.General.{is-some}
use Rattle.route_evaluator.specs.NetTrees.{IsPath, StepsTo}
use Rattle.route_evaluator.proofs.FloodLemmas.{joins-edge_of}
use Rattle.kept_routes.specs.Cuts.{IsAbove, Same, Higher}

-- ---- the edge of a node is one of the tree's

among-from : (f : Node → Option Edge) (e : Edge) (nodes : List Node) (k : ℕ) (node : Node) → slice_get nodes k ≡ Some node → f node ≡ Some e →
    set_of (filter_map f nodes) e ≡ true
among-from f e [] k node there gives = absurd (none-some node there)
among-from f e (x ∷ xs) zero node there gives =
    ap (λ (o : Option Edge). set_of (cons_option o (filter_map f xs)) e) (ap f (same_Some x node there) ∙ gives)
    ∙ or_left (is_edge e e) (set_of (filter_map f xs) e) (is_edge-refl e)
among-from f e (x ∷ xs) (suc k) node there gives = by (f x) (among-from f e xs k node there gives)
  where
    by : (o : Option Edge) → set_of (filter_map f xs) e ≡ true → set_of (cons_option o (filter_map f xs)) e ≡ true
    by None later = later
    by (Some other) later = or_right (is_edge e other) (set_of (filter_map f xs) e) later

edge-of-node : (g : Shape) (nodes : List Node) (e : Edge) (o : Option Node) → option_and_then (edge_to_parent g nodes) o ≡ Some e →
    (node : Node) × (o ≡ Some node) × (edge_to_parent g nodes node ≡ Some e)
edge-of-node g nodes e None is = absurd (none-some e is)
edge-of-node g nodes e (Some node) is = (node, refl, is)

pub edge-among : (t : TreeView) (node : ℕ) (e : Edge) → parent_edge t node ≡ Some e → edges_of t e ≡ true
edge-among t node e is =
    let found = edge-of-node t.shape t.nodes e (slice_get t.nodes node) is in
    among-from (edge_to_parent t.shape t.nodes) e t.nodes node found.0 found.1 found.2

-- ---- the edges along a path

-- are edges of the set
pub path-edges : (g : Shape) (set : Edges) (a b : ℕ) (path : List ℕ) (e : Edge) → IsPath g set a b path → set_of (walk_edges g (a ∷ path)) e ≡ true → set e ≡ true
path-edges g set a b [] e leads is = absurd (false≢true is)
path-edges g set a b (next ∷ after) e leads is =
    let step : StepsTo g set a next = leads.0 in
    let first : edge_of g a next ≡ Some step.edge = joins-edge_of g step.edge a next step.joins in
    let parts : (is_edge e step.edge || set_of (walk_edges g (next ∷ after)) e) ≡ true =
    sym (ap (λ (o : Option Edge). set_of (option_to_list o ++ walk_edges g (next ∷ after)) e) first) ∙ is in
    elim (or_cases (is_edge e step.edge) (set_of (walk_edges g (next ∷ after)) e) parts) [
      | inl here ↦ ap set (is_edge-same e step.edge here) ∙ step.among
      | inr later ↦ path-edges g set next b after e leads.2 later
    ]

-- ---- one more step at the end

module _ (g : Shape) (set : Edges) where
  pub path-on : (a b c : ℕ) (path : List ℕ) → IsPath g set a b path → StepsTo g set b c → is_among (a ∷ path) c ≡ false → IsPath g set a c (path ++ c ∷ [])
  path-on a b c [] leads step fresh =
      let P : ℕ → Type 0 = λ x. StepsTo g set x c in
      let other : (c == a) ≡ false = eqb-swap c a ∙ sym (or-false (a == c)) ∙ fresh in
      (subst P (sym leads) step, ap (λ (t : Bool). t || false) other, refl)
  path-on a b c (next ∷ after) leads step fresh =
      let apart : (a == c) ≡ false = false_from_ne_true (a == c) (λ same. false≢true (sym fresh ∙ or_left (a == c) (is_among (next ∷ after) c) same)) in
      let later : is_among (next ∷ after) c ≡ false =
      false_from_ne_true (is_among (next ∷ after) c) (λ some. false≢true (sym fresh ∙ or_right (a == c) (is_among (next ∷ after) c) some)) in
      let none : is_among (next ∷ after ++ c ∷ []) a ≡ false =
      list_any-append (λ other. other == a) (next ∷ after) (c ∷ []) ∙ ap (λ (t : Bool). t || ((c == a) || false)) leads.1
      ∙ or-false (c == a) ∙ eqb-swap c a ∙ apart in
      (leads.0, none, path-on next b c after leads.2 step later)

  pub edges-on : (a b c : ℕ) (path : List ℕ) → IsPath g set a b path →
      walk_edges g (a ∷ path ++ c ∷ []) ≡ walk_edges g (a ∷ path) ++ option_to_list (edge_of g b c)
  edges-on a b c [] leads =
      append-nil (option_to_list (edge_of g a c)) ∙ ap (λ (x : ℕ). option_to_list (edge_of g x c)) leads
  edges-on a b c (next ∷ after) leads =
      ap (λ (es : List Edge). option_to_list (edge_of g a next) ++ es) (edges-on next b c after leads.2)
      ∙ sym (append_assoc (option_to_list (edge_of g a next)) (walk_edges g (next ∷ after)) (option_to_list (edge_of g b c)))

-- ---- from the first node down

-- a path to a node, over cells of nodes up to it, which passes the edges of all nodes above it
pub record Chain (t : TreeView) (root node cell : ℕ) : Type 0 where
  pub path : List ℕ
  pub leads : IsPath t.shape (edges_of t) root cell path
  pub low : (c : ℕ) → is_among (root ∷ path) c ≡ true → (j : ℕ) × (j ≤ node) × (cell_at t.nodes j ≡ Some c)
  pub along : (upper : ℕ) (e : Edge) → IsAbove t.nodes upper node → 0 < upper → parent_edge t upper ≡ Some e →
      set_of (walk_edges t.shape (root ∷ path)) e ≡ true

module _ (t : TreeView) (tree : IsTree t) (root : ℕ) (first : cell_at t.nodes 0 ≡ Some root) where
  -- a node below another, by the path to that one
  module _ (node cell parent other : ℕ) (own : cell_at t.nodes node ≡ Some cell) (up : parent_at t.nodes node ≡ Some parent) (less : parent < node)
      (above : cell_at t.nodes parent ≡ Some other) (chain : Chain t root parent other) where
    edge : (e : Edge) × (parent_edge t node ≡ Some e)
    edge =
        let some = parent-some t node parent cell other (record { tree = tree; cell = own; parent_is = up; other = above }) in
        is-some (parent_edge t node) (some.1 (omega (arith, less)))

    edge-is : edge_of t.shape other cell ≡ Some edge.0
    edge-is = edge_of-swap t.shape other cell ∙ sym (edge-at t.shape t.nodes node cell parent other own up above) ∙ edge.1

    step : StepsTo t.shape (edges_of t) other cell
    step = record {
      edge = edge.0;
      among = edge-among t node edge.0 edge.1;
      joins = joins-of t.shape other cell edge.0 (cell-inside t.shape t.nodes parent other tree.hanging above) (cell-inside t.shape t.nodes node cell tree.hanging own) edge-is;
    }

    fresh : is_among (root ∷ chain.path) cell ≡ false
    fresh = false_from_ne_true (is_among (root ∷ chain.path) cell) (λ some.
        let was = chain.low cell some in
        let same : was.0 ≡ node = same_Some was.0 node (sym (cell-only t.shape t.nodes was.0 cell tree.hanging was.2) ∙ cell-only t.shape t.nodes node cell tree.hanging own) in
        omega (arith, was.1, same, less))

    edges : walk_edges t.shape (root ∷ chain.path ++ cell ∷ []) ≡ walk_edges t.shape (root ∷ chain.path) ++ edge.0 ∷ []
    edges =
        edges-on t.shape (edges_of t) root other cell chain.path chain.leads
        ∙ ap (λ (o : Option Edge). walk_edges t.shape (root ∷ chain.path) ++ option_to_list o) edge-is

    passes : (e : Edge) → (set_of (walk_edges t.shape (root ∷ chain.path)) e || (is_edge e edge.0 || false)) ≡ true →
        set_of (walk_edges t.shape (root ∷ chain.path ++ cell ∷ [])) e ≡ true
    passes e is =
        ap (λ (es : List Edge). set_of es e) edges ∙ list_any-append (is_edge e) (walk_edges t.shape (root ∷ chain.path)) (edge.0 ∷ []) ∙ is

    here : (e : Edge) → parent_edge t node ≡ Some e → set_of (walk_edges t.shape (root ∷ chain.path ++ cell ∷ [])) e ≡ true
    here e is =
        let same : e ≡ edge.0 = same_Some e edge.0 (sym is ∙ edge.1) in
        let equal : is_edge e edge.0 ≡ true = subst (λ (x : Edge). is_edge e x ≡ true) same (is_edge-refl e) in
        passes e (or_right (set_of (walk_edges t.shape (root ∷ chain.path)) e) (is_edge e edge.0 || false) (or_left (is_edge e edge.0) false equal))

    pub longer : Chain t root node cell
    longer = record {
      path = chain.path ++ cell ∷ [];
      leads = path-on t.shape (edges_of t) root other cell chain.path chain.leads step fresh;
      low = λ c among.
          elim (or_cases (is_among (root ∷ chain.path) c) ((cell == c) || false) (sym (list_any-append (λ x. x == c) (root ∷ chain.path) (cell ∷ [])) ∙ among)) [
            | inl old ↦ (let was = chain.low c old in (was.0, omega (arith, was.1, less), was.2))
            | inr new ↦ elim (or_cases (cell == c) false new) [
              | inl same ↦ (node, omega arith, own ∙ ap (λ (x : ℕ). Some x) (eqb-true cell c same))
              | inr none ↦ absurd (false≢true none)
            ]
          ];
      along = λ upper e is_above behind is. through upper e is_above behind is;
    }
      where
        through : (upper : ℕ) (e : Edge) → IsAbove t.nodes upper node → 0 < upper → parent_edge t upper ≡ Some e →
            set_of (walk_edges t.shape (root ∷ chain.path ++ cell ∷ [])) e ≡ true
        through upper e Same behind is = here e is
        through upper e (Higher {parent = next} hung lower rest) behind is =
            let same : next ≡ parent = same_Some next parent (sym hung ∙ up) in
            passes e (or_left (set_of (walk_edges t.shape (root ∷ chain.path)) e) (is_edge e edge.0 || false)
            (chain.along upper e (subst (λ (n : ℕ). IsAbove t.nodes upper n) same rest) behind is))

  none-above : (upper node : ℕ) → node ≡ 0 → IsAbove t.nodes upper node → 0 < upper → ⊥
  none-above upper node none Same behind = omega (arith, none, behind)
  none-above upper node none (Higher hung lower rest) behind = omega (arith, none, lower)

  chain-to : (fuel node cell : ℕ) → node < fuel → cell_at t.nodes node ≡ Some cell → Chain t root node cell
  chain-to zero node cell below own = absurd (omega (arith, below))
  chain-to (suc fuel) zero cell below own =
      let same : root ≡ cell = same_Some root cell (sym first ∙ own) in
      record {
        path = [];
        leads = same;
        low = λ c among. elim (or_cases (root == c) false among) [
          | inl is ↦ (0, omega arith, first ∙ ap (λ (x : ℕ). Some x) (eqb-true root c is))
          | inr none ↦ absurd (false≢true none)
        ];
        along = λ upper e is_above behind is. absurd (none-above upper 0 refl is_above behind);
      }
  chain-to (suc fuel) (suc k) cell below own =
      let node = node_from_cell t.nodes (suc k) cell own in
      let less = parent-earlier t.shape t.nodes (suc k) node.0 tree.hanging node.1.0 (omega arith) in
      let above = parent-held t.shape t.nodes (suc k) node.0 tree.hanging node.1.0 in
      let up : parent_at t.nodes (suc k) ≡ Some node.0.parent = ap (λ (o : Option Node). option_map (λ (n : Node). n.parent) o) node.1.0 in
      longer (suc k) cell node.0.parent above.0 own up less above.1 (chain-to fuel node.0.parent above.0 (omega (arith, less, below)) above.1)

  pub chain : (node cell : ℕ) → cell_at t.nodes node ≡ Some cell → Chain t root node cell
  chain node cell own = chain-to (suc node) node cell (omega arith) own
