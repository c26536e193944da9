-- How often an edge stands among those of a tree's first nodes.
use Rattle.std.proofs.Common.{◌≡◌, ℕ, suc, ◌+◌, ◌<◌, ◌≤◌, Bool, true, false, ◌||◌, cond, List, [], ◌∷◌, ◌++◌, take, drop, count_by, Option, Some, None, slice_get, if◌then◌else◌, refl, ap, ◌∙◌, arith}
use Rattle.std.proofs.lemmas.List.Elements.{filter_map-append}
use Rattle.std.proofs.lemmas.List.Sums.{sum_by-append, sum_by-cons}
use Rattle.std.specs.List.{filter_map, cons_option}
use Rattle.std.specs.Option.{option_to_list}
use Rattle.gr_base.proofs.TreeDistinct.{tree-distinct_edges}
use Rattle.gr_base.proofs.TreeEdges.{is_edge-refl}
use Rattle.gr_base.proofs.TreeLemmas.{split_at}
use Rattle.gr_base.specs.EdgeSets.{is_edge, set_of}
use Rattle.gr_base.specs.Trees.{TreeView, IsTree, edge_to_parent, tree_edges, edges_of}
use Rattle.gr_base.specs.declared.grid.Edge.{Edge}
use Rattle.gr_base.specs.declared.tree.Node.{Node}

-- how often an edge stands in a list
abbrev pub times : Edge → List Edge → ℕ
times e edges = count_by (is_edge e) edges

pub times-append : (e : Edge) (xs ys : List Edge) → times e (xs ++ ys) ≡ times e xs + times e ys
times-append e xs ys = sum_by-append (λ (x : Edge). cond (is_edge e x) 1 0) xs ys

pub times-cons : (e x : Edge) (xs : List Edge) → times e (x ∷ xs) ≡ cond (is_edge e x) 1 0 + times e xs
times-cons e x xs = sum_by-cons (λ (y : Edge). cond (is_edge e y) 1 0) x xs

pub times-one : (e x : Edge) → times e (x ∷ []) ≡ cond (is_edge e x) 1 0
times-one e x = let h = times-cons e x [] in omega arith

-- a test that holds counts 1, another 0
pub one_if-true : (b : Bool) → b ≡ true → cond {A = ℕ} b 1 0 ≡ 1
one_if-true b is = rw is refl

pub one_if-false : (b : Bool) → b ≡ false → cond {A = ℕ} b 1 0 ≡ 0
one_if-false b is = rw is refl

-- an edge that stands at most once stands as often as the set has it
counted : (b : Bool) (rest : ℕ) (any : Bool) → cond b 1 0 + rest ≤ 1 → rest ≡ (if any then 1 else 0) → cond b 1 0 + rest ≡ (if b || any then 1 else 0)
counted true rest any once is = omega arith
counted false rest any once is = let e : 0 + rest ≡ rest = omega arith in e ∙ is

pub times-set : (e : Edge) (xs : List Edge) → times e xs ≤ 1 → times e xs ≡ (if set_of xs e then 1 else 0)
times-set e [] once = refl
times-set e (x ∷ xs) once =
    let is = times-cons e x xs in
    is ∙ counted (is_edge e x) (times e xs) (set_of xs e) (omega arith) (times-set e xs (omega arith))

-- the edges that nodes give
pub given-one : (f : Node → Option Edge) (node : Node) → filter_map f (node ∷ []) ≡ option_to_list (f node)
given-one f node = one (f node)
  where
    one : (o : Option Edge) → cons_option o [] ≡ option_to_list o
    one None = refl
    one (Some e) = refl

pub given-push : (f : Node → Option Edge) (nodes : List Node) (node : Node) → filter_map f (nodes ++ node ∷ []) ≡ filter_map f nodes ++ option_to_list (f node)
given-push f nodes node = filter_map-append f nodes (node ∷ []) ∙ ap (λ (es : List Edge). filter_map f nodes ++ es) (given-one f node)

-- the edges of the first nodes
abbrev pub edges_before : TreeView → ℕ → List Edge
edges_before t k = filter_map (edge_to_parent t.shape t.nodes) (take k t.nodes)

pub edges_before-more : (t : TreeView) (k : ℕ) (node : Node) → slice_get t.nodes k ≡ Some node → take (k + 1) t.nodes ≡ take k t.nodes ++ node ∷ [] →
    edges_before t (k + 1) ≡ edges_before t k ++ option_to_list (edge_to_parent t.shape t.nodes node)
edges_before-more t k node is next =
    ap (λ (ns : List Node). filter_map (edge_to_parent t.shape t.nodes) ns) next ∙ given-push (edge_to_parent t.shape t.nodes) (take k t.nodes) node

-- a tree's edges are those of the first nodes, that of the next node, and others
pub edges-split : (t : TreeView) (k : ℕ) (node : Node) → slice_get t.nodes k ≡ Some node →
    tree_edges t ≡ edges_before t k ++ (option_to_list (edge_to_parent t.shape t.nodes node) ++ filter_map (edge_to_parent t.shape t.nodes) (drop (suc k) t.nodes))
edges-split t k node is =
    let f : Node → Option Edge = edge_to_parent t.shape t.nodes in
    ap (λ (ns : List Node). filter_map f ns) (split_at t.nodes k node is)
    ∙ filter_map-append f (take k t.nodes) (node ∷ drop (suc k) t.nodes)
    ∙ ap (λ (es : List Edge). edges_before t k ++ es) (filter_map-append f (node ∷ []) (drop (suc k) t.nodes) ∙ ap (λ (es : List Edge). es ++ filter_map f (drop (suc k) t.nodes)) (given-one f node))

-- the edge that the next node gives is none of the first nodes', and one of the tree's
pub edge-next : (t : TreeView) (k : ℕ) (node : Node) (a : Edge) → IsTree t → slice_get t.nodes k ≡ Some node →
    edge_to_parent t.shape t.nodes node ≡ Some a → (times a (edges_before t k) ≡ 0) × (edges_of t a ≡ true)
edge-next t k node a tree is gives =
    let rest : List Edge = filter_map (edge_to_parent t.shape t.nodes) (drop (suc k) t.nodes) in
    let split : tree_edges t ≡ edges_before t k ++ (a ∷ [] ++ rest) =
    edges-split t k node is ∙ ap (λ (o : Option Edge). edges_before t k ++ (option_to_list o ++ rest)) gives in
    let whole : times a (tree_edges t) ≡ times a (edges_before t k) + (cond (is_edge a a) 1 0 + times a rest) =
    ap (times a) split ∙ times-append a (edges_before t k) (a ∷ [] ++ rest) ∙ ap (λ (n : ℕ). times a (edges_before t k) + n) (times-cons a a rest) in
    let one = one_if-true (is_edge a a) (is_edge-refl a) in
    let once = tree-distinct_edges t tree a in
    let set = times-set a (tree_edges t) once in
    (omega arith, from_times (edges_of t a) (times a (tree_edges t)) set (omega arith))
  where
    from_times : (b : Bool) (n : ℕ) → n ≡ (if b then 1 else 0) → 0 < n → b ≡ true
    from_times true n is some = refl
    from_times false n is some = absurd (omega arith)
