use Rattle.std.proofs.Common.{◌<◌, List, ℕ, All, sym, ap, subst, ◌∙◌}
use Rattle.std.proofs.lemmas.Bool.{false≢true}
use Rattle.gr_base.specs.Grid.{cells_of}
use Rattle.gr_base.specs.declared.grid.Shape.{Shape}
use Rattle.grid_demand.specs.Tables.{CapacityView}
use Rattle.route_evaluator.proofs.CountedLemmas.{pins-are, pins-inside}
use Rattle.route_reader.specs.Solutions.{edges_by}
use Rattle.kept_routes.proofs.KeptLemmas.{kept-tree, not-kept, whole-shape}
use Rattle.kept_routes.proofs.kept.kept_tree.Goals as goal

pub cut_to_pins-requires-clause-index : goal.cut_to_pins-requires-clause-index
cut_to_pins-requires-clause-index c =
    c.requires.keeper.index
    ∙ ap cells_of (sym (whole-shape c.args.design.now c.args.net c.requires.routed c.in-Ok.tree c.in-Ok.ensures.routes))

pub cut_to_pins-requires-clause-pins : goal.cut_to_pins-requires-clause-pins
cut_to_pins-requires-clause-pins c =
    subst (λ (g : Shape). All (λ pin. pin < cells_of g) c.as_slice-pins.result.now)
    (sym (whole-shape c.args.design.now c.args.net c.requires.routed c.in-Ok.tree c.in-Ok.ensures.routes))
    (subst (λ (pins : List ℕ). All (λ pin. pin < cells_of c.args.design.now.frame.shape) pins) (sym c.as_slice-pins.ensures)
    (pins-inside c.args.design.now c.args.net c.net.result.now c.net.ensures.design c.net.ensures.net))

pub has_usable_wires-requires : goal.has_usable_wires-requires
has_usable_wires-requires c =
    c.in_ok-tree.ensures.cut.shape ∙ whole-shape c.args.design.now c.args.net c.requires.routed c.in-Ok.tree c.in-Ok.ensures.routes
    ∙ sym (ap (λ (capacity : CapacityView). capacity.shape) c.requires.keeper.capacity)

pub returns-then-not-has_usable_wires-clause-tree : goal.returns-then-not-has_usable_wires-clause-tree
returns-then-not-has_usable_wires-clause-tree c =
    let d = c.args.design.now in
    not-kept d (edges_by c.args.solution.now) c.args.net c.requires.routed c.net.ensures.design c.as_slice-pins.result.now
    (c.as_slice-pins.ensures ∙ pins-are d c.args.net c.net.result.now c.net.ensures.net) c.in-Ok.tree c.in_ok-tree.tree
    c.in-Ok.ensures.tree c.in-Ok.ensures.edges c.in-Ok.ensures.ok c.in-Ok.ensures.routes c.in_ok-tree.ensures.cut
    (λ all. false≢true (sym c.if-not-has_usable_wires.true ∙ (c.has_usable_wires.ensures d c.requires.keeper.capacity).1 all))

pub returns-clause-tree : goal.returns-clause-tree
returns-clause-tree c =
    let d = c.args.design.now in
    kept-tree d (edges_by c.args.solution.now) c.args.net c.requires.routed c.net.ensures.design c.as_slice-pins.result.now
    (c.as_slice-pins.ensures ∙ pins-are d c.args.net c.net.result.now c.net.ensures.net) c.in-Ok.tree c.in_ok-tree.tree
    c.in-Ok.ensures.tree c.in-Ok.ensures.edges c.in-Ok.ensures.ok c.in-Ok.ensures.routes c.in_ok-tree.ensures.cut
    ((c.has_usable_wires.ensures d c.requires.keeper.capacity).0 c.if-not-has_usable_wires.false)
