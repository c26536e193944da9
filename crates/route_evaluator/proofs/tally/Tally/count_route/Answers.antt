use Rattle.std.proofs.Common.{◌≡◌, ℕ, List, Option, Some, IsTrue, sym, ap, subst, ◌∙◌}
use Rattle.std.specs.Option.{IsSomeAnd, option_copied}
use Rattle.gr_base.proofs.General.{and-some}
use Rattle.gr_base.proofs.TreeEdges.{tree-grid_edges}
use Rattle.gr_base.specs.Designs.{DesignView}
use Rattle.gr_base.specs.Grid.{has_edge}
use Rattle.gr_base.specs.Trees.{TreeView, edges_of, edges_or_none, route_edges, tree_at}
use Rattle.gr_base.specs.declared.grid.Shape.{Shape}
use Rattle.grid_demand.specs.LoadSums.{LoadsView}
use Rattle.grid_demand.proofs.LoadSteps.{tree-edge}
use Rattle.route_evaluator.proofs.CountedLemmas.{pins-are, room-next, charged-next, tree-charged, count-same, counted-room, tallied-next}
use Rattle.route_evaluator.proofs.tally.Tally.count_route.Goals as goal

-- the net's tree has the design's shape and the net's edges
record IsNets (d : DesignView) (trees : List (Option TreeView)) (net : ℕ) (t : TreeView) : Type 0 where
  shape : t.shape ≡ d.frame.shape
  edges : edges_of t ≡ route_edges trees net

is-nets : (d : DesignView) (trees : List (Option TreeView)) (net : ℕ) (t : TreeView) → tree_at trees net ≡ Some t →
    IsSomeAnd (tree_at trees net) (λ tree. tree.shape ≡ d.frame.shape) → IsNets d trees net t
is-nets d trees net t at of = record {
  shape = and-some (λ (tree : TreeView). tree.shape ≡ d.frame.shape) (tree_at trees net) t at of;
  edges = sym (ap (λ (o : Option TreeView). edges_or_none o) at);
}

pub include-requires : goal.include-requires
include-requires c =
    let d = c.args.design.now in
    let t = c.unwrap-tree.result.now in
    let is = is-nets d c.args.routes.now c.args.net t (sym c.get.ensures ∙ ap (λ o. option_copied o) c.unwrap-tree.ensures) c.requires.tree in
    let count = count-same d (route_edges c.args.routes.now) c.args.net t.shape (edges_of t) c.as_slice.result.now c.count_tree-count.result is.shape is.edges
    (c.as_slice.ensures ∙ pins-are d c.args.net c.net.result.now c.net.ensures.net) c.count_tree-count.ensures.count in
    counted-room d (route_edges c.args.routes.now) c.args.net _ _ _ _ _ c.count_tree-count.result c.net.ensures.design c.requires.routed count c.requires.tallied

pub returns-clause-tallied : goal.returns-clause-tallied
returns-clause-tallied c =
    let d = c.args.design.now in
    let t = c.unwrap-tree.result.now in
    let is = is-nets d c.args.routes.now c.args.net t (sym c.get.ensures ∙ ap (λ o. option_copied o) c.unwrap-tree.ensures) c.requires.tree in
    let count = count-same d (route_edges c.args.routes.now) c.args.net t.shape (edges_of t) c.as_slice.result.now c.count_tree-count.result is.shape is.edges
    (c.as_slice.ensures ∙ pins-are d c.args.net c.net.result.now c.net.ensures.net) c.count_tree-count.ensures.count in
    tallied-next d (route_edges c.args.routes.now) c.args.net c.args.self.now c.include.new.self c.count_tree-count.result c.requires.routed c.in_ok-include.ensures
    count c.requires.tallied
