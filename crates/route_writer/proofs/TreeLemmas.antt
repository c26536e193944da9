-- The edges of a tree's first nodes.
use Rattle.std.proofs.Common.{◌≡◌, ℕ, ◌+◌, ◌<◌, List, [], ◌∷◌, ◌++◌, length, get_or, take, Option, Some, None, refl, sym, ap, ◌∙◌}
use Rattle.std.specs.List.{filter_map, cons_option}
use Rattle.std.specs.Option.{option_and_then, option_to_list}
use Rattle.std.proofs.lemmas.List.{take_more}
use Rattle.std.proofs.lemmas.List.Elements.{filter_map-append}
use Rattle.std.proofs.lemmas.Option.{slice_get-get_or}
use Rattle.gr_base.specs.declared.grid.Edge.{Edge}
use Rattle.gr_base.specs.declared.tree.Node.{Node}
use Rattle.gr_base.specs.ParentEdges.{parent_edge}
use Rattle.gr_base.specs.Trees.{TreeView, node_of, edge_to_parent}

abbrev pub edges_before : TreeView → ℕ → List Edge
edges_before t k = filter_map (edge_to_parent t.shape t.nodes) (take k t.nodes)

-- one more node adds the edge to its parent
pub node-more : (t : TreeView) (k : ℕ) (edge : Option Edge) → k < length t.nodes → edge ≡ parent_edge t k →
    edges_before t (k + 1) ≡ edges_before t k ++ option_to_list edge
node-more t k edge below is =
    let to_edge : Node → Option Edge = edge_to_parent t.shape t.nodes in
    let node : Node = get_or t.nodes k (node_of 0 0) in
    let gives : to_edge node ≡ edge = sym (is ∙ ap (λ (o : Option Node). option_and_then to_edge o) (slice_get-get_or t.nodes k (node_of 0 0) below)) in
    ap (filter_map to_edge) (take_more t.nodes k (node_of 0 0) below)
    ∙ filter_map-append to_edge (take k t.nodes) (node ∷ [])
    ∙ ap (λ (o : Option Edge). edges_before t k ++ cons_option o []) gives
    ∙ ap (λ (es : List Edge). edges_before t k ++ es) (as-list edge)
  where
    as-list : (o : Option Edge) → cons_option o [] ≡ option_to_list o
    as-list None = refl
    as-list (Some e) = refl
