-- Along the edges of a tree one path leads from each of its cells to each other.
use Rattle.std.proofs.Common.{◌≡◌, ℕ, zero, suc, ◌+◌, ◌<◌, ◌≤◌, ◌⊎◌, inl, inr, true, false, ◌||◌, ◌==◌, List, [], ◌∷◌, ◌++◌, length, take, get_or, Option, Some, None, is_some, slice_get, refl, sym, ap, subst, ◌∙◌, append-nil, arith}
use Rattle.std.specs.List.{filter_map, cons_option}
use Rattle.std.specs.Option.{option_and_then}
use Rattle.std.proofs.lemmas.Bool.{cases_Bool, or_cases, or_left, or_right, eqb-true, false≢true}
use Rattle.std.proofs.lemmas.List.{take_more, take_all, length-take-le}
use Rattle.std.proofs.lemmas.List.Elements.{filter_map-append}
use Rattle.std.proofs.lemmas.List.Folds.{list_any-append}
use Rattle.std.proofs.lemmas.Option.{same_Some, slice_get-get_or}
use Rattle.gr_base.specs.declared.grid.Edge.{Edge}
use Rattle.gr_base.specs.declared.grid.Shape.{Shape}
use Rattle.gr_base.specs.declared.tree.Node.{Node}
use Rattle.gr_base.specs.Grid.{edge_of, Joins}
use Rattle.gr_base.specs.EdgeSets.{Edges, is_edge, set_of}
use Rattle.gr_base.specs.Trees.{TreeView, node_of, cell_at, node_with, holds, AllHang, IsTree, edge_to_parent, edges_of}
use Rattle.gr_base.proofs.GridLemmas.{joins-swap}
use Rattle.gr_base.proofs.TreeLemmas.{root-cell, cell_at-take, cell-inside, hangs-at, read-cell, found-append, parent-of}
use Rattle.gr_base.proofs.TreeEdges.{found-at, edge_of-some, is_edge-refl}
use Rattle.gr_base.proofs.TreeDistinct.{is_edge-same, gives, edge-parts, joins-of, AllHang-take}
use Rattle.gr_base.proofs.TreeGrowth.{parent-held}
use Rattle.route_evaluator.specs.NetTrees.{StepsTo, OnePath}
use Rattle.route_evaluator.proofs.PathLemmas.{step-more, joins-apart, joins-other, joins-same, path-more, SomePath, path-before, path-join, path-back, path-none, Sprouts, NoTwo, no-two-more}

-- an edge that was added at the end is in the list
last-edge : (edges : List Edge) (o : Option Edge) (e : Edge) → o ≡ Some e → set_of (edges ++ cons_option o []) e ≡ true
last-edge edges o e is =
    ap (λ (added : Option Edge). set_of (edges ++ cons_option added []) e) is
    ∙ list_any-append (is_edge e) edges (e ∷ [])
    ∙ or_right (set_of edges e) (is_edge e e || false) (or_left (is_edge e e) false (is_edge-refl e))

module _ (g : Shape) (nodes : List Node) (hanging : AllHang g [] nodes) where
  abbrev first-edges : ℕ → List Edge
  first-edges k = filter_map (edge_to_parent g nodes) (take k nodes)

  abbrev held : ℕ → ℕ → Type 0
  held k cell = is_some (node_with (take k nodes) cell) ≡ true

  -- the edge of a node, by the cells that it joins
  record Hung (k : ℕ) (e : Edge) (cell : ℕ) : Type 0 where
    other : ℕ
    joins : Joins g e cell other
    near : held k other

  hung : (k j : ℕ) (x : Node) (e : Edge) → slice_get (take k nodes) j ≡ Some x → edge_to_parent g nodes x ≡ Some e → Hung k e x.cell
  hung k j x e at is =
      let parts = edge-parts g x (cell_at nodes x.parent) e is in
      let own = read-cell (take k nodes) j x at in
      let parent = parent-held g (take k nodes) j x (AllHang-take g [] nodes k hanging) at in
      let whole = cell_at-take nodes k x.parent parent.0 parent.1 in
      let same : parent.0 ≡ parts.0 = same_Some parent.0 parts.0 (sym whole ∙ parts.1.0) in
      let P : ℕ → Type 0 = λ c. held k c in
      record {
        other = parts.0;
        joins = joins-of g x.cell parts.0 e (cell-inside g nodes j x.cell hanging (cell_at-take nodes k j x.cell own)) (cell-inside g nodes x.parent parts.0 hanging parts.1.0) parts.1.1;
        near = subst P same (found-at (take k nodes) x.parent parent.0 parent.1);
      }

  -- the ends of the first nodes' edges are among them
  pub end-held : (k : ℕ) (e : Edge) (a b : ℕ) → set_of (first-edges k) e ≡ true → Joins g e a b → held k a
  end-held k e a b is joins =
      let found = gives (edge_to_parent g nodes) e (take k nodes) is in
      let x : Node = found.1.0 in
      let h = hung k found.0 x e found.1.1.0 found.1.1.1 in
      let P : ℕ → Type 0 = λ c. held k c in
      let own : held k x.cell = found-at (take k nodes) found.0 x.cell (read-cell (take k nodes) found.0 x found.1.1.0) in
      elim joins.ends [
        | inl f ↦ elim h.joins.ends [ inl s ↦ subst P (sym s.0 ∙ f.0) own | inr s ↦ subst P (sym s.0 ∙ f.0) h.near ]
        | inr f ↦ elim h.joins.ends [ inl s ↦ subst P (sym s.1 ∙ f.1) h.near | inr s ↦ subst P (sym s.1 ∙ f.1) own ]
      ]

  -- the first nodes' edges and one more
  in-more : (edges : List Edge) (e d : Edge) → set_of (edges ++ e ∷ []) d ≡ true → (set_of edges d ≡ true) ⊎ (d ≡ e)
  in-more edges e d is =
      elim (or_cases (set_of edges d) (is_edge d e || false) (sym (list_any-append (is_edge d) edges (e ∷ [])) ∙ is)) [
        | inl old ↦ inl old
        | inr new ↦ elim (or_cases (is_edge d e) false new) [
          | inl same ↦ inr (is_edge-same d e same)
          | inr none ↦ absurd (false≢true none)
        ]
      ]

  not-held : (k cell : ℕ) → node_with (take k nodes) cell ≡ None → held k cell → ⊥
  not-held k cell none some = false≢true (sym (ap (λ (o : Option ℕ). is_some o) none) ∙ some)

  sprouts : (k : ℕ) (e : Edge) (leaf stem : ℕ) → node_with (take k nodes) leaf ≡ None → Joins g e leaf stem →
      Sprouts g (set_of (first-edges k)) (set_of (first-edges k ++ e ∷ [])) leaf stem
  sprouts k e leaf stem fresh joins = record {
    apart = λ same. joins-apart g e leaf stem joins (sym same);
    kept = λ a b not_a not_b step. elim (in-more (first-edges k) e step.edge step.among) [
      | inl old ↦ record { edge = step.edge; among = old; joins = step.joins }
      | inr new ↦
          let P : Edge → Type 0 = λ d. Joins g d a b in
          absurd (joins-same g e a b leaf stem (subst P new step.joins) joins not_a not_b)
    ];
    into = λ a step. elim (in-more (first-edges k) e step.edge step.among) [
      | inl old ↦ absurd (not-held k leaf fresh (end-held k step.edge leaf a old (joins-swap g step.edge a leaf step.joins)))
      | inr new ↦
          let P : Edge → Type 0 = λ d. Joins g d a leaf in
          joins-other g e a stem leaf (subst P new step.joins) (joins-swap g e leaf stem joins)
    ];
    out = λ b step. elim (in-more (first-edges k) e step.edge step.among) [
      | inl old ↦ absurd (not-held k leaf fresh (end-held k step.edge leaf b old step.joins))
      | inr new ↦
          let P : Edge → Type 0 = λ d. Joins g d leaf b in
          joins-other g e b stem leaf (joins-swap g e leaf b (subst P new step.joins)) (joins-swap g e leaf stem joins)
    ];
  }

  first-more : (k : ℕ) (d : Node) → k < length nodes → first-edges (k + 1) ≡ first-edges k ++ cons_option (edge_to_parent g nodes (get_or nodes k d)) []
  first-more k d lt = ap (filter_map (edge_to_parent g nodes)) (take_more nodes k d lt) ∙ filter_map-append (edge_to_parent g nodes) (take k nodes) (get_or nodes k d ∷ [])

  take-none : (xs : List Node) → take 0 xs ≡ []
  take-none [] = refl
  take-none (x ∷ xs) = refl

  last-node : (k : ℕ) (d : Node) → k < length nodes → slice_get (take (k + 1) nodes) k ≡ Some (get_or nodes k d)
  last-node k d lt =
      let P : List Node → Type 0 = λ xs. slice_get xs k ≡ Some (get_or nodes k d) in
      subst P (sym (take_more nodes k d lt)) (at-seam (take k nodes) (get_or nodes k d) k (length-take nodes k (omega arith)))
    where
      length-take : (xs : List Node) (n : ℕ) → n ≤ length xs → length (take n xs) ≡ n
      length-take xs n most = length-take-le n xs most

      at-seam : (before : List Node) (node : Node) (n : ℕ) → length before ≡ n → slice_get (before ++ node ∷ []) n ≡ Some node
      at-seam [] node n is = let P : ℕ → Type 0 = λ m. slice_get (node ∷ []) m ≡ Some node in subst P is refl
      at-seam (x ∷ xs) node zero is = absurd (omega arith)
      at-seam (x ∷ xs) node (suc n) is = at-seam xs node n (omega arith)

  no-two-first : (k : ℕ) → k ≤ length nodes → NoTwo g (set_of (first-edges k))
  no-two-first zero most =
      let none : first-edges 0 ≡ [] = ap (filter_map (edge_to_parent g nodes)) (take-none nodes) in
      let off : (e : Edge) → set_of (first-edges 0) e ≡ false = λ e. ap (λ (es : List Edge). set_of es e) none in
      λ a b path other first second. path-none g (set_of (first-edges 0)) off a b path first ∙ sym (path-none g (set_of (first-edges 0)) off a b other second)
  no-two-first (suc k) most =
      let d = node_of 0 0 in
      let lt : k < length nodes = omega arith in
      let node = get_or nodes k d in
      let next : suc k ≡ k + 1 = omega arith in
      let P : List Edge → Type 0 = λ es. NoTwo g (set_of es) in
      let Q : ℕ → Type 0 = λ n. NoTwo g (set_of (first-edges n)) in
      subst Q (sym next) (subst P (sym (first-more k d lt)) (one-more k node (edge_to_parent g nodes node) refl (slice_get-get_or nodes k d lt) (last-node k d lt) (no-two-first k (omega arith))))
    where
      one-more : (k : ℕ) (node : Node) (o : Option Edge) → edge_to_parent g nodes node ≡ o → slice_get nodes k ≡ Some node →
          slice_get (take (k + 1) nodes) k ≡ Some node → NoTwo g (set_of (first-edges k)) → NoTwo g (set_of (first-edges k ++ cons_option o []))
      one-more k node None to at at' only =
          let P : List Edge → Type 0 = λ es. NoTwo g (set_of es) in subst P (sym (append-nil (first-edges k))) only
      one-more k node (Some e) to at at' only =
          let h = hung (k + 1) k node e at' to in
          no-two-more g (set_of (first-edges k)) (set_of (first-edges k ++ e ∷ [])) node.cell h.other
          (sprouts k e node.cell h.other (hangs-at g nodes k node hanging at).fresh h.joins) only

  one-cell : (node : Node) (cell : ℕ) → is_some (node_with (node ∷ []) cell) ≡ true → node.cell ≡ cell
  one-cell node cell is =
      elim (cases_Bool (node.cell == cell)) [
        | inl same ↦ eqb-true node.cell cell same
        | inr other ↦
            let none : is_some (node_with (node ∷ []) cell) ≡ false = rw other refl in
            absurd (false≢true (sym none ∙ is))
      ]

  -- from each of the first nodes' cells a path leads to the first one's
  to-root : (root : ℕ) → cell_at nodes 0 ≡ Some root → (k : ℕ) → k ≤ length nodes → (a : ℕ) → held k a → SomePath g (set_of (first-edges k)) a root
  to-root root is zero most a found =
      absurd (false≢true (sym (ap (λ (xs : List Node). is_some (node_with xs a)) (take-none nodes)) ∙ found))
  to-root root is (suc k) most a found =
      let d = node_of 0 0 in
      let lt : k < length nodes = omega arith in
      let node = get_or nodes k d in
      let next : suc k ≡ k + 1 = omega arith in
      let Q : ℕ → Type 0 = λ n. SomePath g (set_of (first-edges n)) a root in
      let more : (b : ℕ) → SomePath g (set_of (first-edges k)) b root → SomePath g (set_of (first-edges (k + 1))) b root = λ b some.
      (some.0, path-more g (set_of (first-edges k)) (set_of (first-edges (k + 1))) (step-more g (set_of (first-edges k)) (set_of (first-edges (k + 1))) (kept k d lt)) b root some.0 some.1) in
      let longer : take (suc k) nodes ≡ take k nodes ++ node ∷ [] = ap (λ (n : ℕ). take n nodes) next ∙ take_more nodes k d lt in
      let either : is_some (node_with (take (suc k) nodes) a) ≡ (is_some (node_with (take k nodes) a) || is_some (node_with (node ∷ []) a)) =
      ap (λ (xs : List Node). is_some (node_with xs a)) longer ∙ found-append (take k nodes) (node ∷ []) a in
      let parts : (is_some (node_with (take k nodes) a) || is_some (node_with (node ∷ []) a)) ≡ true = sym either ∙ found in
      subst Q (sym next) (elim (or_cases (is_some (node_with (take k nodes) a)) (is_some (node_with (node ∷ []) a)) parts) [
        | inl old ↦ more a (to-root root is k (omega arith) a old)
        | inr new ↦
            let P : ℕ → Type 0 = λ c. SomePath g (set_of (first-edges (k + 1))) c root in
            subst P (one-cell node a new) (from-node k d lt (λ b near. more b (to-root root is k (omega arith) b near)))
      ])
    where
      kept : (k : ℕ) (d : Node) → k < length nodes → (e : Edge) → set_of (first-edges k) e ≡ true → set_of (first-edges (k + 1)) e ≡ true
      kept k d lt e old =
          let new = cons_option (edge_to_parent g nodes (get_or nodes k d)) [] in
          ap (λ (es : List Edge). set_of es e) (first-more k d lt) ∙ list_any-append (is_edge e) (first-edges k) new ∙ or_left (set_of (first-edges k) e) (set_of new e) old

      from-node : (k : ℕ) (d : Node) → k < length nodes → ((b : ℕ) → held k b → SomePath g (set_of (first-edges (k + 1))) b root) →
          SomePath g (set_of (first-edges (k + 1))) (get_or nodes k d).cell root
      from-node zero d lt near =
          let at = read-cell nodes 0 (get_or nodes 0 d) (slice_get-get_or nodes 0 d lt) in
          ([], same_Some (get_or nodes 0 d).cell root (sym at ∙ is))
      from-node (suc k) d lt near =
          let node = get_or nodes (suc k) d in
          let count : length (take (suc k) nodes) ≡ suc k = length-take-le (suc k) nodes (omega arith) in
          let at = slice_get-get_or nodes (suc k) d lt in
          let parent = parent-of g (take (suc k) nodes) node (omega arith) (hangs-at g nodes (suc k) node hanging at).parent in
          let whole = cell_at-take nodes (suc k) node.parent parent.0 parent.1.0 in
          let edge = edge_of-some g node.cell parent.0 parent.1.1 in
          let to : edge_to_parent g nodes node ≡ Some edge.0 = ap (λ (o : Option ℕ). option_and_then (λ cell. edge_of g node.cell cell) o) whole ∙ edge.1 in
          let new : set_of (first-edges (suc k + 1)) edge.0 ≡ true =
          ap (λ (es : List Edge). set_of es edge.0) (first-more (suc k) d lt) ∙ last-edge (first-edges (suc k)) (edge_to_parent g nodes node) edge.0 to in
          let step : StepsTo g (set_of (first-edges (suc k + 1))) node.cell parent.0 = record {
            edge = edge.0;
            among = new;
            joins = joins-of g node.cell parent.0 edge.0 (hangs-at g nodes (suc k) node hanging at).inside (cell-inside g nodes node.parent parent.0 hanging whole) edge.1;
          } in
          path-before g (set_of (first-edges (suc k + 1))) node.cell parent.0 root step
          (near parent.0 (found-at (take (suc k) nodes) node.parent parent.0 parent.1.0))

  first-path : (root a b : ℕ) → cell_at nodes 0 ≡ Some root → held (length nodes) a → held (length nodes) b → OnePath g (set_of (first-edges (length nodes))) a b
  first-path root a b is from to =
      let set : Edges = set_of (first-edges (length nodes)) in
      let up = to-root root is (length nodes) (omega arith) a from in
      let down = to-root root is (length nodes) (omega arith) b to in
      let both = path-join g set a root b up.0 up.1 (path-back g set b root down.0 down.1) in
      record { path = both.0; leads = both.1; only = λ other leads. no-two-first (length nodes) (omega arith) a b other both.0 leads both.1 }

-- between two cells of a tree exactly one path leads along its edges
pub one-path : (t : TreeView) → IsTree t → (a b : ℕ) → holds t a ≡ true → holds t b ≡ true → OnePath t.shape (edges_of t) a b
one-path t tree a b from to =
    let root = root-cell t.nodes tree.rooted in
    let all : take (length t.nodes) t.nodes ≡ t.nodes = take_all (length t.nodes) t.nodes (omega arith) in
    let H : ℕ → List Node → Type 0 = λ c xs. is_some (node_with xs c) ≡ true in
    let P : List Node → Type 0 = λ xs. OnePath t.shape (set_of (filter_map (edge_to_parent t.shape t.nodes) xs)) a b in
    subst P all (first-path t.shape t.nodes tree.hanging root.0 a b root.1 (subst (H a) (sym all) from) (subst (H b) (sym all) to))

-- the ends of a tree's edges are its cells
pub ends-held : (t : TreeView) → IsTree t → (e : Edge) (a b : ℕ) → edges_of t e ≡ true → Joins t.shape e a b → holds t a ≡ true
ends-held t tree e a b is joins =
    let all : take (length t.nodes) t.nodes ≡ t.nodes = take_all (length t.nodes) t.nodes (omega arith) in
    let H : List Node → Type 0 = λ xs. is_some (node_with xs a) ≡ true in
    let E : List Node → Type 0 = λ xs. set_of (filter_map (edge_to_parent t.shape t.nodes) xs) e ≡ true in
    subst H all (end-held t.shape t.nodes tree.hanging (length t.nodes) e a b (subst E (sym all) is) joins)
