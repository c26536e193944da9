use Rattle.std.proofs.Common.{Vec, Global, Some, sym, ap, ◌∙◌, arith}
use Rattle.std.specs.Arc.{arc_value}
use Rattle.gr_base.specs.declared.tree.Node.{Node}
use Rattle.gr_base.specs.Trees.{TreeView, node_with}
use Rattle.gr_base.proofs.GridLemmas.{few_cells}
use Rattle.gr_base.proofs.TreeLemmas.{few-nodes, cell_at-within, node_with-at, position-found, some-alike}
use Rattle.gr_base.proofs.tree.RouteTree.node_at.Goals as goal

pub returns-in_err-found-clause-node : goal.returns-in_err-found-clause-node
returns-in_err-found-clause-node c =
    let same = c.deref-2.ensures.value ∙ ap (λ (v : Vec Node Global). v.items) c.deref.ensures ∙ ap (λ (t : TreeView). t.nodes) c.self.view_is in
    let found = position-found c.deref-2.result.now c.args.self.now.nodes c.args.cell c.position_of.result c.position_of.ensures same in
    c.from_residual.ensures ∙ sym c.in_err-found.was ∙ found

pub returns-in_err-found-clause-some : goal.returns-in_err-found-clause-some
returns-in_err-found-clause-some c =
    let same = c.deref-2.ensures.value ∙ ap (λ (v : Vec Node Global). v.items) c.deref.ensures ∙ ap (λ (t : TreeView). t.nodes) c.self.view_is in
    let found = position-found c.deref-2.result.now c.args.self.now.nodes c.args.cell c.position_of.result c.position_of.ensures same in
    some-alike c.from_residual.result (node_with c.args.self.now.nodes c.args.cell) (c.from_residual.ensures ∙ sym c.in_err-found.was ∙ found)

pub overflow_cast-result : goal.overflow_cast-result
overflow_cast-result c =
    let nodes = (arc_value c.self.inside.nodes).items in
    let found = position-found c.deref-2.result.now nodes c.args.cell c.position_of.result c.position_of.ensures (c.deref-2.ensures.value ∙ ap (λ (v : Vec Node Global). v.items) c.deref.ensures) in
    let few = few-nodes c.self.inside.shape nodes c.self.invariant.hanging in
    let most = few_cells c.self.inside.shape in
    let is = sym found ∙ c.in_ok-found.was in
    let within = cell_at-within nodes c.in_ok-found.found c.args.cell (node_with-at nodes c.args.cell c.in_ok-found.found is) in
    omega arith

pub returns-clause-node : goal.returns-clause-node
returns-clause-node c =
    let same = c.deref-2.ensures.value ∙ ap (λ (v : Vec Node Global). v.items) c.deref.ensures ∙ ap (λ (t : TreeView). t.nodes) c.self.view_is in
    let found = position-found c.deref-2.result.now c.args.self.now.nodes c.args.cell c.position_of.result c.position_of.ensures same in
    sym c.in_ok-found.was ∙ found

pub returns-clause-some : goal.returns-clause-some
returns-clause-some c =
    let same = c.deref-2.ensures.value ∙ ap (λ (v : Vec Node Global). v.items) c.deref.ensures ∙ ap (λ (t : TreeView). t.nodes) c.self.view_is in
    let found = position-found c.deref-2.result.now c.args.self.now.nodes c.args.cell c.position_of.result c.position_of.ensures same in
    some-alike (Some c.in_ok-found.found) (node_with c.args.self.now.nodes c.args.cell) (sym c.in_ok-found.was ∙ found)

pub returns-clause-found : goal.returns-clause-found
returns-clause-found c =
    let same = c.deref-2.ensures.value ∙ ap (λ (v : Vec Node Global). v.items) c.deref.ensures ∙ ap (λ (t : TreeView). t.nodes) c.self.view_is in
    let found = position-found c.deref-2.result.now c.args.self.now.nodes c.args.cell c.position_of.result c.position_of.ensures same in
    node_with-at c.args.self.now.nodes c.args.cell c.in_ok-found.found (sym found ∙ c.in_ok-found.was)
