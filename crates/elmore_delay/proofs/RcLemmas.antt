-- The RC tree of a loading is one, and its parts are in range.
use Rattle.std.proofs.Common.{◌≡◌, ℕ, ◌+◌, ◌-◌, ◌<◌, List, [], ◌∷◌, length, get_or, Option, Some, None, IsSome, IfSome, unwrap_or, option_and_then, slice_get, refl, sym, ap, subst, ◌∙◌, arith}
use Rattle.std.proofs.lemmas.Option.{slice_get-get_or}
use Rattle.std.proofs.lemmas.List.FromFn.{get_or-map-range_with_len, length-map-range_with_len}
use Rattle.std.specs.Option.{option_map}
use Rattle.gr_base.proofs.GridLemmas.{few_cells}
use Rattle.gr_base.proofs.ParentEdgeLemmas.{IsHeld, parent-some}
use Rattle.gr_base.proofs.TreeLemmas.{few-nodes, hangs-at, parent-earlier, some_from}
use Rattle.gr_base.specs.ParentEdges.{parent_edge}
use Rattle.gr_base.specs.Trees.{TreeView, AllHang, IsTree, cell_at, parent_at, node_with}
use Rattle.gr_base.specs.declared.grid.Edge.{Edge}
use Rattle.gr_base.specs.declared.grid.Shape.{Shape}
use Rattle.gr_base.specs.declared.tree.Node.{Node}
use Rattle.rc_library.specs.Libraries.{LibraryView, IsLibrary, IsKind, kind_of}
use Rattle.rc_library.specs.declared.parts.Kind.{Kind}
use Rattle.elmore_delay.specs.RcTrees.{Sink, IsRcTree}
use Rattle.elmore_delay.specs.Ranges.{IsSmall}
use Rattle.elmore_delay.specs.Placements.{placed_at, buffers_of}
use Rattle.elmore_delay.specs.Loadings.{LoadingView, IsLoading, rc_of, parent_of, sink_at, wire_of}
use Rattle.elmore_delay.proofs.LibraryRanges.{driver-fits, wire-fits, kind-fits}
use Rattle.elmore_delay.proofs.SinkLemmas.{each-sink, node-inside}

-- the first node is its own parent, and has no edge
root-node : (g : Shape) (nodes : List Node) → 0 < length nodes → AllHang g [] nodes →
    (node : Node) × ((slice_get nodes 0 ≡ Some node) × (node.parent ≡ 0))
root-node g [] some hanging = absurd (omega arith)
root-node g (node ∷ nodes) some hanging = (node, (refl, (hangs-at g (node ∷ nodes) 0 node hanging refl).parent))

no-root_edge : (t : TreeView) → IsTree t → parent_edge t 0 ≡ None
no-root_edge t tree =
    let root = root-node t.shape t.nodes tree.rooted tree.hanging in
    let cell : cell_at t.nodes 0 ≡ Some root.0.cell = ap (λ (o : Option Node). option_map (λ (n : Node). n.cell) o) root.1.0 in
    let parent : parent_at t.nodes 0 ≡ Some 0 =
    ap (λ (o : Option Node). option_map (λ (n : Node). n.parent) o) root.1.0 ∙ ap (λ (n : ℕ). Some n) root.1.1 in
    let held : IsHeld t 0 0 root.0.cell root.0.cell = record { tree = tree; cell = cell; parent_is = parent; other = cell } in
    none (parent_edge t 0) (parent-some t 0 0 root.0.cell root.0.cell held).0
  where
    none : (o : Option Edge) → (IsSome o → 0 < 0) → o ≡ None
    none None past = refl
    none (Some e) past = let below = past refl in absurd (omega arith)

-- the parent of a later node is an earlier one
parent-before : (t : TreeView) (node : ℕ) → IsTree t → 0 < node → node < length t.nodes → parent_of t node < node
parent-before t node tree later below =
    let other : Node = (root-node t.shape t.nodes tree.rooted tree.hanging).0 in
    let at = slice_get-get_or t.nodes node other below in
    let is : parent_of t node ≡ (get_or t.nodes node other).parent =
    ap (λ (o : Option Node). unwrap_or (option_map (λ (n : Node). n.parent) o) 0) at in
    let earlier = parent-earlier t.shape t.nodes node (get_or t.nodes node other) tree.hanging at later in
    omega (arith, is, earlier)

-- each sink is at a node of the tree
sink-inside : (l : LoadingView) (pin : ℕ) → IsLoading l → pin < length l.pins → (sink_at l pin).node < length l.tree.nodes
sink-inside l pin loading below =
    let held = loading.held pin 0 below in
    let node = some_from (node_with l.tree.nodes (get_or l.pins pin 0)) held in
    let is : (sink_at l pin).node ≡ node.0 = ap (λ (o : Option ℕ). unwrap_or o 0) node.1 in
    let inside = node-inside l.tree (get_or l.pins pin 0) node.0 node.1 in
    omega (arith, is, inside)

pub rc-tree : (l : LoadingView) → IsLoading l → IsRcTree (rc_of l)
rc-tree l loading = record {
  rooted = loading.tree.rooted;
  earlier = λ node later below. parent-before l.tree node loading.tree later below;
  root = ap (λ (o : Option Edge). (wire_of l.library l.tree.shape o).r) (no-root_edge l.tree loading.tree);
  sinks = λ k default below.
      let long = length-map-range_with_len (sink_at l) 1 (length l.pins - 1) in
      let at = get_or-map-range_with_len (sink_at l) 1 (length l.pins - 1) k (1 + k) default (omega arith) refl in
      subst (λ (sink : Sink). sink.node < length l.tree.nodes) (sym at) (sink-inside l (1 + k) loading (omega arith));
}

-- what a placement puts at nodes are kinds of the library
buffers-fit : (lib : LibraryView) (o : Option ℕ) → IsLibrary lib → IfSome (option_and_then (kind_of lib) o) IsKind
buffers-fit lib None is = tt
buffers-fit lib (Some number) is = named (kind_of lib number) refl
  where
    named : (o : Option Kind) → kind_of lib number ≡ o → IfSome o IsKind
    named None none = tt
    named (Some kind) some = kind-fits lib number kind is some

pub rc-small : (l : LoadingView) (kinds : List (Option ℕ)) → IsLoading l → IsSmall (rc_of l) (buffers_of l.library kinds)
rc-small l kinds loading =
    let few = few-nodes l.tree.shape l.tree.nodes loading.tree.hanging in
    let cells = few_cells l.tree.shape in
    let long = length-map-range_with_len (sink_at l) 1 (length l.pins - 1) in
    let most = loading.few_pins in
    record {
      few_nodes = omega (arith, few, cells);
      few_sinks = omega (arith, long, most);
      driver = driver-fits l.library l.net loading.library;
      wires = λ node. wire-fits l.library l.tree.shape (parent_edge l.tree node) loading.library;
      kinds = λ node. buffers-fit l.library (placed_at kinds node) loading.library;
      sinks = each-sink l (length l.pins - 1) loading.library;
    }

-- node 0 holds no buffer
pub no-root_buffer : (lib : LibraryView) (kinds : List (Option ℕ)) → placed_at kinds 0 ≡ None → buffers_of lib kinds 0 ≡ None
no-root_buffer lib kinds none = ap (λ (o : Option ℕ). option_and_then (kind_of lib) o) none

-- a parent that is read
pub parent-read : (l : LoadingView) (t : TreeView) (node parent : ℕ) → l.tree ≡ t → parent_at t.nodes node ≡ Some parent → parent_of l.tree node ≡ parent
parent-read l t node parent same is = ap (λ (u : TreeView). parent_of u node) same ∙ ap (λ (o : Option ℕ). unwrap_or o 0) is
