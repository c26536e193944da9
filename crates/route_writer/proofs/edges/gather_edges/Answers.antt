use Rattle.std.proofs.Common.{List, [], ◌∷◌, ◌++◌, Option, sym, ap, ◌∙◌, append-nil, arith}
use Rattle.std.specs.Option.{option_to_list}
use Rattle.gr_base.specs.declared.grid.Edge.{Edge}
use Rattle.gr_base.proofs.TreeEdges.{tree-grid_edges}
use Rattle.route_writer.proofs.TreeLemmas.{edges_before, node-more}
use Rattle.route_writer.proofs.edges.gather_edges.Goals as goal

pub loop-node-preserved-in_default : goal.loop-node-preserved-in_default
loop-node-preserved-in_default c =
    let t = c.args.tree.now in
    let before = edges_before t c.loop-node.node in
    c.loop-node.invariant
    ∙ sym (node-more t c.loop-node.node c.edge_to_parent.result (omega (arith, c.len-node-end.ensures.len, c.loop-node-test.true)) c.edge_to_parent.ensures.edge
    ∙ ap (λ (o : Option Edge). before ++ option_to_list o) c.in_default.is ∙ append-nil before)

pub loop-node-preserved : goal.loop-node-preserved
loop-node-preserved c =
    let t = c.args.tree.now in
    let before = edges_before t c.loop-node.node in
    c.in_ok-push.ensures.items
    ∙ ap (λ (l : List Edge). l ++ c.in-Some.edge ∷ []) c.loop-node.invariant
    ∙ sym (node-more t c.loop-node.node c.edge_to_parent.result (omega (arith, c.len-node-end.ensures.len, c.loop-node-test.true)) c.edge_to_parent.ensures.edge
    ∙ ap (λ (o : Option Edge). before ++ option_to_list o) c.in-Some.is)

pub returns-clause-grid : goal.returns-clause-grid
returns-clause-grid c = tree-grid_edges c.args.tree.now c.len-node-end.ensures.tree

pub returns-in_err-push-clause-grid : goal.returns-in_err-push-clause-grid
returns-in_err-push-clause-grid c = tree-grid_edges c.args.tree.now c.len-node-end.ensures.tree
