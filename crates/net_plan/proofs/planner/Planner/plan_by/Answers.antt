use Rattle.std.proofs.Common.{◌≡◌, ℕ, List, All, slice_get, slice_index, IsTrue, refl, sym, ap, subst, ◌∙◌}
use Rattle.gr_base.specs.Trees.{IsTree, cell_at, edges_of, holds}
use Rattle.gr_base.specs.declared.grid.Edge.{Edge}
use Rattle.gr_base.specs.declared.grid.Shape.{Shape}
use Rattle.grid_demand.specs.Tables.{CapacityView}
use Rattle.layer_assign.specs.Assignments.{HasLayers}
use Rattle.layer_assign.specs.NodeOrder.{raised_tree}
use Rattle.layer_assign.specs.Raised.{raised_edges}
use Rattle.net_plan.specs.FlatTrees.{IsFlatTree}
use Rattle.net_plan.specs.Prices.{price_of, ways_of}
use Rattle.net_plan.proofs.FlatLemmas.{if-three, if-both}
use Rattle.net_plan.proofs.PlanLemmas.{has-layers, are-layers, are-pins, net-of, pins-of, same-plan, same-net}
use Rattle.net_plan.proofs.planner.Planner.plan_by.Goals as goal

pub assign-requires-clause-layers : goal.assign-requires-clause-layers
assign-requires-clause-layers g c =
    let d = c.args.design.now in
    let shape : c.shape-shape.result ≡ d.frame.shape = c.shape-shape.ensures.shape ∙ ap (λ (x : CapacityView). x.shape) c.requires.capacity in
    subst (λ (s : Shape). HasLayers s (ways_of c.args.costs.now.capacity.now) c.in_ok-flat.flat) (sym shape)
    (has-layers d c.args.costs.now.capacity.now c.in_ok-flat.flat c.requires.capacity c.net.ensures.design.frame
    c.in_ok-flat.ensures.tree.flattened (subst IsTree c.flat.view_is c.flat.invariant))

pub raise-requires-clause-pins : goal.raise-requires-clause-pins
raise-requires-clause-pins g c =
    let d = c.args.design.now in
    let shape : c.shape-shape.result ≡ d.frame.shape = c.shape-shape.ensures.shape ∙ ap (λ (x : CapacityView). x.shape) c.requires.capacity in
    are-pins c.shape-shape.result d.frame.shape c.in_ok-flat.flat c.as_slice-pins.result.now c.net.result.now shape c.as_slice-pins.ensures
    (net-of d c.args.costs.now.net c.net.result.now c.net.ensures.design c.net.ensures.net) c.in_ok-flat.ensures.tiles

pub raise-requires-clause-layers : goal.raise-requires-clause-layers
raise-requires-clause-layers g c =
    are-layers c.shape-shape.result (ways_of c.args.costs.now.capacity.now) c.in_ok-flat.flat c.in_ok-layers.layers c.in_ok-layers.ensures.nodes c.in_ok-layers.ensures.assignment

pub returns-clause-plan : goal.returns-clause-plan
returns-clause-plan g c =
    let d = c.args.design.now in
    let costs = c.args.costs.now in
    let s = c.shape-shape.result in
    let flat = c.in_ok-flat.flat in
    let cells = c.as_slice-pins.result.now in
    let layers : ℕ → ℕ = λ node. slice_index c.in_ok-layers.layers node in
    let price = price_of costs.capacity.now costs.loads.now costs.rule.now.formula costs.net in
    let shape : s ≡ d.frame.shape = c.shape-shape.ensures.shape ∙ ap (λ (x : CapacityView). x.shape) c.requires.capacity in
    let is_flat : IsFlatTree s price cells flat = subst (λ (x : Shape). IsFlatTree x price cells flat) (sym shape) c.in_ok-flat.ensures.tree in
    let pins = c.as_slice-pins.ensures ∙ sym (pins-of d costs.net c.net.result.now c.net.ensures.net) in
    if-three {P = λ t. IsTree t × (t.shape ≡ s)} {Q = λ t. cell_at t.nodes 0 ≡ slice_get cells 0}
    {R = λ t. ((e : Edge) → edges_of t e ≡ raised_edges s flat cells layers e) × (t ≡ raised_tree s flat cells layers)} c.raise.result
    (λ t whole driver raised.
    same-plan s costs.capacity.now costs.capacity.now costs.loads.now costs.loads.now costs.rule.now.formula costs.rule.now.formula costs.net costs.net cells _ t
    c.shape-shape.ensures.shape refl refl refl refl pins (record {
      tree = whole.0;
      shape = whole.1;
      driver = driver;
      flat = flat;
      flat_tree = subst IsTree c.flat.view_is c.flat.invariant;
      layers = layers;
      is_flat = is_flat;
      assignment = c.in_ok-layers.ensures.assignment;
      least = c.in_ok-layers.ensures.least;
      first = c.in_ok-layers.ensures.first;
      edges = raised.0;
      nodes = raised.1;
    }))
    (if-both {P = IsTree} {Q = λ t. t.shape ≡ s} c.raise.result (λ t rooted same. (rooted, same)) c.raise.ensures.tree c.raise.ensures.shape) c.raise.ensures.driver
    (if-both {P = λ t. (e : Edge) → edges_of t e ≡ raised_edges s flat cells layers e} {Q = λ t. t ≡ raised_tree s flat cells layers} c.raise.result
    (λ t edges nodes. (edges, nodes)) c.raise.ensures.edges c.raise.ensures.nodes)

pub returns-clause-routes : goal.returns-clause-routes
returns-clause-routes g c =
    λ wanted wanted_is.
    let d = c.args.design.now in
    let s = c.shape-shape.result in
    let cells = c.as_slice-pins.result.now in
    let shape : s ≡ d.frame.shape = c.shape-shape.ensures.shape ∙ ap (λ (x : CapacityView). x.shape) c.requires.capacity in
    let pins : cells ≡ wanted.pins = c.as_slice-pins.ensures ∙ same-net d c.args.costs.now.net c.net.result.now wanted c.net.ensures.net wanted_is in
    if-three {P = λ t. t.shape ≡ s} {Q = λ t. cell_at t.nodes 0 ≡ slice_get cells 0} {R = λ t. All (λ pin. IsTrue (holds t pin)) cells} c.raise.result
    (λ t same driver held. record {
      shape = same ∙ shape;
      driver = driver ∙ ap (λ (xs : List ℕ). slice_get xs 0) pins;
      pins = subst (All (λ pin. IsTrue (holds t pin))) pins held;
    })
    c.raise.ensures.shape c.raise.ensures.driver c.raise.ensures.pins
