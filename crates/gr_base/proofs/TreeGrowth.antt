-- Trees that walks are hung on.
use Rattle.std.proofs.Common.{◌≡◌, ℕ, suc, zero, ◌+◌, ◌-◌, ◌<◌, ◌≤◌, inl, inr, Bool, true, false, ◌||◌, ◌==◌, List, [], ◌∷◌, ◌++◌, length, take, drop, get_or, Option, Some, None, is_some, unwrap_or, slice_get, IsSomeAnd, Result, Ok, Err, OnOk, OnErr, refl, sym, ap, subst, ◌∙◌, append_assoc, arith}
use Rattle.std.proofs.Math.Seq.{drop-cons}
use Rattle.std.proofs.lemmas.Bool.{cases_Bool, eqb-true, eq-eqb, or_left, or_right, or_from}
use Rattle.std.proofs.Math.Bool.{or-false}
use Rattle.std.proofs.lemmas.List.{append-nil, length-append, drop_all}
use Rattle.std.proofs.lemmas.List.Elements.{filter_map-append}
use Rattle.std.proofs.lemmas.List.Folds.{list_any-append}
use Rattle.std.proofs.lemmas.Option.{none-some, same_Some}
use Rattle.std.specs.List.{list_any, filter_map, cons_option}
use Rattle.std.specs.Option.{option_and_then, option_to_list}
use Rattle.std.specs.declared.alloc.AllocError.{AllocError}
use Rattle.gr_base.specs.Grid.{AreNeighbours, edge_of}
use Rattle.gr_base.specs.EdgeSets.{is_edge, set_of}
use Rattle.gr_base.specs.Trees.{TreeView, node_of, cell_at, node_from, node_with, IsParent, AllHang, IsTree, edge_to_parent, edges_of, is_among, IsWalkTo, hung, grown, attached, Grows, Begins, AddsCells, walk_edges, AddsEdges}
use Rattle.gr_base.specs.declared.grid.Edge.{Edge}
use Rattle.gr_base.specs.declared.grid.Shape.{Shape}
use Rattle.gr_base.specs.declared.tree.Node.{Node}
use Rattle.gr_base.proofs.GridLemmas.{few_cells}
use Rattle.gr_base.proofs.TreeLemmas.{few-nodes, node_from-past, none_from, some_from, found-any, found-append, cell_at-append, cell_at-take, node_with-at, AllHang-push, hangs-at, parent-of}

either_false : (h : Bool) → h ≡ (h || (false || false))
either_false true = refl
either_false false = refl

regroup : (h r x : Bool) → ((h || r) || (x || false)) ≡ (h || (x || r))
regroup true r x = refl
regroup false true true = refl
regroup false true false = refl
regroup false false true = refl
regroup false false false = refl

-- the cells of a grown tree are the old ones and the walk's
pub grown-cells : (t : TreeView) (walk : List ℕ) (c : ℕ) → IsWalkTo t walk →
    is_some (node_with (grown t.nodes walk) c) ≡ (is_some (node_with t.nodes c) || is_among walk c)
grown-cells t [] c leads = absurd leads
grown-cells t (last ∷ []) c leads =
    elim (cases_Bool (last == c)) [
      | inl same ↦
          let P : ℕ → Type 0 = λ n. is_some (node_with t.nodes n) ≡ true in
          let held : is_some (node_with t.nodes c) ≡ true = subst P (eqb-true last c same) leads in
          held ∙ sym (or_left (is_some (node_with t.nodes c)) ((last == c) || false) held)
      | inr other ↦ rw other (either_false (is_some (node_with t.nodes c)))
    ]
grown-cells t (cell ∷ next ∷ after) c leads =
    let rest = grown-cells t (next ∷ after) c leads.1 in
    let nodes = grown t.nodes (next ∷ after) in
    let node = node_of cell (unwrap_or (node_with nodes next) 0) in
    found-append nodes (node ∷ []) c
    ∙ ap (λ (b : Bool). b || is_some (node_with (node ∷ []) c)) rest
    ∙ ap (λ (b : Bool). (is_some (node_with t.nodes c) || is_among (next ∷ after) c) || b) (found-any 0 (node ∷ []) c)
    ∙ regroup (is_some (node_with t.nodes c)) (is_among (next ∷ after) c) (cell == c)

pub adds-cells : (t : TreeView) (walk : List ℕ) → IsWalkTo t walk → AddsCells t walk (attached t walk)
adds-cells t walk leads = λ c. grown-cells t walk c leads

-- the walk's first cell is in the grown tree
pub grown-first : (t : TreeView) (next : ℕ) (after : List ℕ) → IsWalkTo t (next ∷ after) →
    is_some (node_with (grown t.nodes (next ∷ after)) next) ≡ true
grown-first t next after leads =
    grown-cells t (next ∷ after) next leads
    ∙ or_right (is_some (node_with t.nodes next)) (is_among (next ∷ after) next)
    (or_left (next == next) (is_among after next) (eq-eqb next next refl))

-- a step's first cell isn't in the tree that the rest of the walk was attached to
pub grown-fresh : (t : TreeView) (cell next : ℕ) (after : List ℕ) → IsWalkTo t (cell ∷ next ∷ after) →
    node_with (grown t.nodes (next ∷ after)) cell ≡ None
grown-fresh t cell next after leads =
    none_from (node_with (grown t.nodes (next ∷ after)) cell)
    (grown-cells t (next ∷ after) cell leads.1
    ∙ or_from (is_some (node_with t.nodes cell)) (is_among (next ∷ after) cell) leads.0.outside leads.0.once)

-- a node whose parent is a neighbour hangs on the nodes
pub is-parent : (g : Shape) (before : List Node) (node : Node) (c : ℕ) → cell_at before node.parent ≡ Some c →
    AreNeighbours g node.cell c → IsParent g before node
is-parent g [] node c at near = absurd (none-some c at)
is-parent g (x ∷ xs) node c at near =
    let P : Option ℕ → Type 0 = λ o. IsSomeAnd o (λ cell. AreNeighbours g node.cell cell) in subst P (sym at) near

-- the cell that a hung node hangs on
hung-on : (nodes : List Node) (next : ℕ) → is_some (node_with nodes next) ≡ true →
    cell_at nodes (unwrap_or (node_with nodes next) 0) ≡ Some next
hung-on nodes next found =
    let at = some_from (node_with nodes next) found in
    let P : ℕ → Type 0 = λ i. cell_at nodes i ≡ Some next in
    subst P (sym (ap (λ (o : Option ℕ). unwrap_or o 0) at.1)) (node_with-at nodes next at.0 at.1)

-- each node of a grown tree hangs on those before it
pub grown-hanging : (t : TreeView) (walk : List ℕ) → IsTree t → IsWalkTo t walk → AllHang t.shape [] (grown t.nodes walk)
grown-hanging t [] tree leads = absurd leads
grown-hanging t (last ∷ []) tree leads = tree.hanging
grown-hanging t (cell ∷ next ∷ after) tree leads =
    let nodes = grown t.nodes (next ∷ after) in
    let node = node_of cell (unwrap_or (node_with nodes next) 0) in
    AllHang-push t.shape nodes node (grown-hanging t (next ∷ after) tree leads.1) (record {
      inside = leads.0.inside;
      fresh = grown-fresh t cell next after leads;
      parent = is-parent t.shape nodes node next (hung-on nodes next (grown-first t next after leads.1)) leads.0.neighbours;
    })

-- a grown tree begins with the old one's nodes
pub grown-begins : (nodes : List Node) (walk : List ℕ) → (added : List Node) × (grown nodes walk ≡ nodes ++ added)
grown-begins nodes [] = ([], sym (append-nil nodes))
grown-begins nodes (last ∷ []) = ([], sym (append-nil nodes))
grown-begins nodes (cell ∷ next ∷ after) =
    let rest = grown-begins nodes (next ∷ after) in
    let node = node_of cell (unwrap_or (node_with (grown nodes (next ∷ after)) next) 0) in (
      rest.0 ++ node ∷ [],
      ap (λ (ns : List Node). ns ++ node ∷ []) rest.1 ∙ append_assoc nodes rest.0 (node ∷ []),
    )

pub begins : (t : TreeView) (walk : List ℕ) → Begins t (attached t walk)
begins t walk = let g = grown-begins t.nodes walk in record { shape = refl; added = g.0; nodes = g.1 }

pub begins-same : (t : TreeView) → Begins t t
begins-same t = record { shape = refl; added = []; nodes = sym (append-nil t.nodes) }

-- attaching a walk to a tree makes a tree
pub attached-tree : (t : TreeView) (walk : List ℕ) → IsTree t → IsWalkTo t walk → IsTree (attached t walk)
attached-tree t walk tree leads =
    let g = grown-begins t.nodes walk in
    let count : length (grown t.nodes walk) ≡ length t.nodes + length g.0 = ap (λ (ns : List Node). length ns) g.1 ∙ length-append t.nodes g.0 in
    let some = tree.rooted in
    record { rooted = omega arith; hanging = grown-hanging t walk tree leads }

-- the rest of a walk is a walk
pub IsWalkTo-drop : (t : TreeView) (walk : List ℕ) (n : ℕ) → n < length walk → IsWalkTo t walk → IsWalkTo t (drop n walk)
IsWalkTo-drop t walk zero below leads = leads
IsWalkTo-drop t [] (suc n) below leads = absurd leads
IsWalkTo-drop t (last ∷ []) (suc n) below leads = absurd (omega arith)
IsWalkTo-drop t (cell ∷ next ∷ after) (suc n) below leads = IsWalkTo-drop t (next ∷ after) n (omega arith) leads.1

-- what attaching a walk from its end has come to: the walk that is attached, and the number of its first cell's node
pub record Attaching (t : TreeView) (rest : List ℕ) (nodes : List Node) (parent : ℕ) : Type 0 where
  pub leads : IsWalkTo t rest
  pub grows : nodes ≡ grown t.nodes rest
  pub tip : node_with nodes (get_or rest 0 0) ≡ Some parent

-- one more cell of the walk
pub attach-cell : (t : TreeView) (cell next : ℕ) (after : List ℕ) (nodes : List Node) (parent : ℕ) →
    IsWalkTo t (cell ∷ next ∷ after) → Attaching t (next ∷ after) nodes parent →
    Attaching t (cell ∷ next ∷ after) (nodes ++ node_of cell parent ∷ []) (length nodes)
attach-cell t cell next after nodes parent leads so_far =
    let P : List Node → Type 0 = λ ns. node_with ns cell ≡ None in
    let fresh : node_with nodes cell ≡ None = subst P (sym so_far.grows) (grown-fresh t cell next after leads) in
    let test : (cell == cell) ≡ true = eq-eqb cell cell refl in
    let one : node_from (0 + length nodes) (node_of cell parent ∷ []) cell ≡ Some (length nodes) =
    rw test (let e : 0 + length nodes ≡ length nodes = omega arith in ap (λ (n : ℕ). Some n) e) in
    let Q : List Node → Type 0 = λ ns. nodes ++ node_of cell parent ∷ [] ≡ hung ns cell next in
    record {
      leads = leads;
      grows = subst Q so_far.grows (ap (λ (o : Option ℕ). nodes ++ node_of cell (unwrap_or o 0) ∷ []) (sym so_far.tip));
      tip = node_from-past 0 nodes (node_of cell parent ∷ []) cell fresh ∙ one;
    }

-- a turn of the loop that attaches a walk from its end
pub attach-turn : (t : TreeView) (walk : List ℕ) (from at d : ℕ) (nodes new : List Node) (parent number : ℕ) → IsWalkTo t walk →
    from ≡ at + 1 → from < length walk → Attaching t (drop from walk) nodes parent →
    new ≡ nodes ++ node_of (get_or walk at d) parent ∷ [] → number ≡ length nodes → Attaching t (drop at walk) new number
attach-turn t walk from at d nodes new parent number leads step below so_far pushed count =
    let cell = get_or walk at d in
    let next = get_or walk (suc at) 0 in
    let after = drop (suc (suc at)) walk in
    let e : from ≡ suc at = omega arith in
    let tail : drop (suc at) walk ≡ next ∷ after = drop-cons walk (suc at) 0 (omega arith) in
    let whole : drop at walk ≡ cell ∷ next ∷ after =
    drop-cons walk at d (omega arith) ∙ ap (λ (cs : List ℕ). cell ∷ cs) tail in
    let P : List ℕ → Type 0 = λ rest. IsWalkTo t rest in
    let Q : List ℕ → Type 0 = λ rest. Attaching t rest nodes parent in
    let R : List ℕ → Type 0 = λ rest. Attaching t rest new number in
    let N : ℕ → Type 0 = λ n. Attaching t (drop n walk) nodes parent in
    let A : List Node → Type 0 = λ ns. Attaching t (cell ∷ next ∷ after) ns number in
    let B : ℕ → Type 0 = λ n. Attaching t (cell ∷ next ∷ after) (nodes ++ node_of cell parent ∷ []) n in
    subst R (sym whole) (subst A (sym pushed) (subst B (sym count) (attach-cell t cell next after nodes parent
    (subst P whole (IsWalkTo-drop t walk at (omega arith) leads)) (subst Q tail (subst N e so_far)))))

-- the walk's last cell is in the tree
pub walk-last : (t : TreeView) (walk : List ℕ) → IsWalkTo t walk → (at d : ℕ) → at + 1 ≡ length walk →
    is_some (node_with t.nodes (get_or walk at d)) ≡ true
walk-last t [] leads at d last = absurd leads
walk-last t (cell ∷ []) leads zero d last = leads
walk-last t (cell ∷ []) leads (suc at) d last = absurd (omega arith)
walk-last t (cell ∷ next ∷ after) leads zero d last = absurd (omega arith)
walk-last t (cell ∷ next ∷ after) leads (suc at) d last = walk-last t (next ∷ after) leads.1 at d (omega arith)

-- before the first turn only the walk's last cell is in the tree
pub attach-start : (t : TreeView) (walk : List ℕ) (at d : ℕ) (nodes : List Node) (parent : ℕ) → IsWalkTo t walk → at + 1 ≡ length walk →
    nodes ≡ t.nodes → node_with t.nodes (get_or walk at d) ≡ Some parent → Attaching t (drop at walk) nodes parent
attach-start t walk at d nodes parent leads last same found =
    let whole : drop at walk ≡ get_or walk at d ∷ drop (suc at) walk = drop-cons walk at d (omega arith) in
    let none : drop (suc at) walk ≡ [] = drop_all (suc at) walk (omega arith) in
    let one : drop at walk ≡ get_or walk at d ∷ [] = whole ∙ ap (λ (cs : List ℕ). get_or walk at d ∷ cs) none in
    let P : List ℕ → Type 0 = λ rest. Attaching t rest nodes parent in
    let N : List Node → Type 0 = λ ns. Attaching t (get_or walk at d ∷ []) ns parent in
    subst P (sym one) (subst N (sym same) (record { leads = walk-last t walk leads at d last; grows = refl; tip = found }))

-- after the last turn the tree is the one that is wanted
pub attach-done : (t now : TreeView) (walk : List ℕ) (at parent : ℕ) → at ≤ 0 → Attaching t (drop at walk) now.nodes parent →
    now.shape ≡ t.shape → now ≡ attached t walk
attach-done t now walk at parent last so_far shape =
    let e : at ≡ 0 = omega arith in
    let P : ℕ → Type 0 = λ n. Attaching t (drop n walk) now.nodes parent in
    let done = subst P e so_far in
    let by_shape : Shape → TreeView = λ s. record { shape = s; nodes = now.nodes } in
    let by_nodes : List Node → TreeView = λ ns. record { shape = t.shape; nodes = ns } in
    ap by_shape shape ∙ ap by_nodes done.grows

-- each node's parent is one of the nodes
pub parent-held : (g : Shape) (nodes : List Node) (k : ℕ) (node : Node) → AllHang g [] nodes → slice_get nodes k ≡ Some node →
    (c : ℕ) × (cell_at nodes node.parent ≡ Some c)
parent-held g [] k node hanging is = absurd (none-some node is)
parent-held g (root ∷ others) zero node hanging is =
    let P : Node → Type 0 = λ n. n.parent ≡ 0 in
    let own : node.parent ≡ 0 = subst P (same_Some root node is) hanging.0.parent in
    let Q : ℕ → Type 0 = λ i. cell_at (root ∷ others) i ≡ Some root.cell in
    (root.cell, subst Q (sym own) refl)
parent-held g (root ∷ others) (suc k) node hanging is =
    let parent = parent-of g (take (suc k) (root ∷ others)) node (omega arith) (hangs-at g (root ∷ others) (suc k) node hanging is).parent in
    (parent.0, cell_at-take (root ∷ others) (suc k) node.parent parent.0 parent.1.0)

filter_map-same : (f h : Node → Option Edge) (xs : List Node) →
    ((k : ℕ) (x : Node) → slice_get xs k ≡ Some x → f x ≡ h x) → filter_map f xs ≡ filter_map h xs
filter_map-same f h [] each = refl
filter_map-same f h (x ∷ xs) each =
    ap (λ (o : Option Edge). cons_option o (filter_map f xs)) (each zero x refl)
    ∙ ap (λ (es : List Edge). cons_option (h x) es) (filter_map-same f h xs (λ k y is. each (suc k) y is))

-- more nodes don't change the edges of a tree's nodes
pub edges-kept : (g : Shape) (nodes more : List Node) → AllHang g [] nodes →
    filter_map (edge_to_parent g (nodes ++ more)) nodes ≡ filter_map (edge_to_parent g nodes) nodes
edges-kept g nodes more hanging =
    filter_map-same (edge_to_parent g (nodes ++ more)) (edge_to_parent g nodes) nodes (λ k node is.
    let parent = parent-held g nodes k node hanging is in
    let P : Option ℕ → Type 0 = λ o. option_and_then (λ cell. edge_of g node.cell cell) o ≡ edge_to_parent g nodes node in
    subst P (sym (cell_at-append nodes more node.parent parent.0 parent.1)) (ap (λ (o : Option ℕ). option_and_then (λ cell. edge_of g node.cell cell) o) (sym parent.1)))

-- the edges of a tree with more nodes are its own and those of the new nodes
pub edges-append : (g : Shape) (nodes more : List Node) → AllHang g [] nodes →
    filter_map (edge_to_parent g (nodes ++ more)) (nodes ++ more)
    ≡ filter_map (edge_to_parent g nodes) nodes ++ filter_map (edge_to_parent g (nodes ++ more)) more
edges-append g nodes more hanging =
    filter_map-append (edge_to_parent g (nodes ++ more)) nodes more
    ∙ ap (λ (es : List Edge). es ++ filter_map (edge_to_parent g (nodes ++ more)) more) (edges-kept g nodes more hanging)

one_option : (o : Option Edge) → cons_option o [] ≡ option_to_list o
one_option None = refl
one_option (Some e) = refl

-- the edges of a tree and of one more node
pub edges-hung : (g : Shape) (nodes : List Node) (cell next : ℕ) → AllHang g [] nodes → is_some (node_with nodes next) ≡ true →
    filter_map (edge_to_parent g (hung nodes cell next)) (hung nodes cell next)
    ≡ filter_map (edge_to_parent g nodes) nodes ++ option_to_list (edge_of g cell next)
edges-hung g nodes cell next hanging found =
    let node = node_of cell (unwrap_or (node_with nodes next) 0) in
    let at = cell_at-append nodes (node ∷ []) node.parent next (hung-on nodes next found) in
    edges-append g nodes (node ∷ []) hanging
    ∙ ap (λ (o : Option ℕ). filter_map (edge_to_parent g nodes) nodes ++ cons_option (option_and_then (λ c. edge_of g cell c) o) []) at
    ∙ ap (λ (es : List Edge). filter_map (edge_to_parent g nodes) nodes ++ es) (one_option (edge_of g cell next))

either-way : (h r x : Bool) → ((h || r) || x) ≡ (h || (x || r))
either-way true r x = refl
either-way false true true = refl
either-way false true false = refl
either-way false false true = refl
either-way false false false = refl

-- the edges of a grown tree are the old ones and the walk's
pub adds-edges : (t : TreeView) (walk : List ℕ) → IsTree t → IsWalkTo t walk → AddsEdges t walk (attached t walk)
adds-edges t [] tree leads = absurd leads
adds-edges t (last ∷ []) tree leads = λ e. sym (or-false (edges_of t e))
adds-edges t (cell ∷ next ∷ after) tree leads = λ e.
    let nodes = grown t.nodes (next ∷ after) in
    let old : List Edge = filter_map (edge_to_parent t.shape nodes) nodes in
    let new : List Edge = option_to_list (edge_of t.shape cell next) in
    let rest = adds-edges t (next ∷ after) tree leads.1 e in
    ap (λ (es : List Edge). list_any (is_edge e) es)
    (edges-hung t.shape nodes cell next (grown-hanging t (next ∷ after) tree leads.1) (grown-first t next after leads.1))
    ∙ list_any-append (is_edge e) old new
    ∙ ap (λ (b : Bool). b || list_any (is_edge e) new) rest
    ∙ either-way (edges_of t e) (set_of (walk_edges t.shape (next ∷ after)) e) (list_any (is_edge e) new)
    ∙ ap (λ (b : Bool). edges_of t e || b) (sym (list_any-append (is_edge e) new (walk_edges t.shape (next ∷ after))))

-- a walk isn't empty
pub some-walk : (t : TreeView) (walk : List ℕ) → IsWalkTo t walk → 0 < length walk
some-walk t [] leads = absurd leads
some-walk t (cell ∷ walk) leads = omega arith

grown-count : (nodes : List Node) (walk : List ℕ) → 0 < length walk → length (grown nodes walk) + 1 ≡ length nodes + length walk
grown-count nodes [] some = absurd (omega arith)
grown-count nodes (last ∷ []) some = omega arith
grown-count nodes (cell ∷ next ∷ after) some =
    let rest = grown-count nodes (next ∷ after) (omega arith) in
    let node = node_of cell (unwrap_or (node_with (grown nodes (next ∷ after)) next) 0) in
    let one = length-append (grown nodes (next ∷ after)) (node ∷ []) in
    omega (arith, rest, one)

-- few nodes are added
pub few-added : (t : TreeView) (walk : List ℕ) → IsTree t → IsWalkTo t walk → length t.nodes + length walk ≤ 8388609
few-added t walk tree leads =
    let few = few-nodes t.shape (grown t.nodes walk) (grown-hanging t walk tree leads) in
    let most = few_cells t.shape in
    let count = grown-count t.nodes walk (some-walk t walk leads) in
    omega (arith, few, most, count)

-- a tree after a walk was hung on it, or after memory ran out
pub record IsHung (t : TreeView) (walk : List ℕ) (r : Result (Unit {0}) AllocError) (now : TreeView) : Type 0 where
  pub tree : IsTree now
  pub begins : Begins t now
  pub cells : OnOk r (AddsCells t walk now)
  pub edges : OnOk r (AddsEdges t walk now)
  pub ok : OnOk r (now ≡ attached t walk)

pub hung-walk : (t : TreeView) (walk : List ℕ) (number : ℕ) (r : Result (Unit {0}) AllocError) (new : List Node) → IsTree t → IsWalkTo t walk →
    cell_at t.nodes number ≡ slice_get walk (length walk - 1) → OnOk r (Grows t.nodes walk number new) → OnErr r (new ≡ t.nodes) →
    IsHung t walk r (record { shape = t.shape; nodes = new })
hung-walk t walk number (Ok done) new tree leads parent grows same =
    let of : List Node → TreeView = λ ns. record { shape = t.shape; nodes = ns } in
    let is = ap of (grows t tree refl leads parent) in
    subst (λ (now : TreeView). IsHung t walk (Ok done) now) (sym is) (record {
      tree = attached-tree t walk tree leads;
      begins = begins t walk;
      cells = adds-cells t walk leads;
      edges = adds-edges t walk tree leads;
      ok = refl;
    })
hung-walk t walk number (Err failed) new tree leads parent grows same =
    let of : List Node → TreeView = λ ns. record { shape = t.shape; nodes = ns } in
    subst (λ (now : TreeView). IsHung t walk (Err failed) now) (sym (ap of same)) (record {
      tree = tree;
      begins = begins-same t;
      cells = tt;
      edges = tt;
      ok = tt;
    })
