use Rattle.std.proofs.Common.{IsTrue, sym, ap, subst, ◌∙◌}
use Rattle.gr_base.specs.Grid.{has_edge, on_layer}
use Rattle.gr_base.specs.declared.grid.Edge.{Edge}
use Rattle.gr_base.specs.declared.grid.Shape.{Shape}
use Rattle.layer_assign.proofs.FlatLemmas.{on_layer-edge}
use Rattle.net_plan.proofs.flat_costs.FlatCosts.over.Goals as goal

pub returns-clause-edge : goal.returns-clause-edge
returns-clause-edge g c =
    let flattened = c.args.self.now in
    let grid = flattened.costs.now.capacity.now.shape in
    let is = c.edge_over.ensures ∙ ap (λ (s : Shape). on_layer s c.args.layer c.args.e) c.shape.ensures.shape in
    subst (λ (e : Edge). IsTrue (has_edge grid e)) (sym is)
    (on_layer-edge grid flattened.shape c.args.layer c.args.e flattened.flattened c.requires.edge c.requires.layer)
