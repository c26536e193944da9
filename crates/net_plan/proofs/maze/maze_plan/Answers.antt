use Rattle.std.proofs.Common.{◌≡◌, ℕ, List, All, slice_get, IfOk, IsTrue, sym, ap, subst, ◌∙◌}
use Rattle.gr_base.specs.Trees.{cell_at, holds}
use Rattle.gr_base.specs.declared.frame.Frame.{Frame}
use Rattle.gr_base.specs.declared.grid.Shape.{Shape}
use Rattle.grid_demand.specs.Tables.{CapacityView}
use Rattle.maze_route.specs.Windows.{IsWindow, IsPassable}
use Rattle.net_plan.specs.Mazes.{driver_tree, GrowsTo, IsMaze}
use Rattle.gr_base.specs.Designs.{pins_at}
use Rattle.net_plan.specs.Prices.{price_of, ways_of}
use Rattle.net_plan.proofs.FlatLemmas.{if-then, if-three}
use Rattle.net_plan.proofs.MazeLemmas.{same-maze, maze-only}
use Rattle.net_plan.proofs.PlanLemmas.{net-of, pins-of, same-net}
use Rattle.net_plan.proofs.WindowLemmas.{has-window, passable}
use Rattle.net_plan.proofs.maze.maze_plan.Given.{Over}
use Rattle.net_plan.proofs.maze.maze_plan.Goals as goal

pub grow-requires : goal.grow-requires
grow-requires g c =
    let d = c.args.design.now in
    let frame_shape = ap (λ (f : Frame). f.shape) c.frame.ensures.frame in
    let window = has-window c.frame.result.now.shape d.frame.shape c.as_slice-pins.result.now c.net.result.now c.args.margin c.window_of-window.result
    frame_shape c.as_slice-pins.ensures (net-of d c.args.net c.net.result.now c.net.ensures.design c.net.ensures.net) c.window_of-window.ensures in
    let capacity = c.new-costs.ensures.capacity ∙ c.requires.capacity in
    record {
      grid = ap (λ (x : CapacityView). x.shape) capacity ∙ sym frame_shape;
      window = window.fits;
      passable = subst (λ (s : Shape). IsPassable s (ways_of c.new-costs.result.capacity.now) c.window_of-window.result) (sym frame_shape)
          (passable d c.new-costs.result.capacity.now c.window_of-window.result capacity c.net.ensures.design.frame
          (subst (λ (s : Shape). IsWindow s c.window_of-window.result) frame_shape window.fits));
      some = window.some;
      cells = window.cells;
      pins = window.lie;
    }

-- the tree has grown as the maze plan over the loads does
grown : (g : Over) (c : goal.After-planner-1 g) →
    IfOk c.grow.result (IsMaze c.args.capacity.now c.args.loads.now c.args.rule.now.formula c.args.net (pins_at c.args.design.now c.args.net) c.args.margin)
grown g c =
    let d = c.args.design.now in
    let costs = c.new-costs.result in
    let s = c.frame.result.now.shape in
    let cells = c.as_slice-pins.result.now in
    let shape = ap (λ (f : Frame). f.shape) c.frame.ensures.frame ∙ sym (ap (λ (x : CapacityView). x.shape) c.requires.capacity) in
    let pins = c.as_slice-pins.ensures ∙ sym (pins-of d c.args.net c.net.result.now c.net.ensures.net) in
    if-then {P = GrowsTo c.window_of-window.result (price_of costs.capacity.now costs.loads.now costs.rule.now.formula costs.net) cells (driver_tree s cells)} c.grow.result
    (λ t grows. same-maze s c.window_of-window.result costs.capacity.now c.args.capacity.now costs.loads.now c.args.loads.now costs.rule.now.formula c.args.rule.now.formula costs.net c.args.net
    cells (pins_at d c.args.net) c.args.margin t c.window_of-window.ensures shape c.new-costs.ensures.capacity c.new-costs.ensures.loads c.new-costs.ensures.formula c.new-costs.ensures.net pins grows)
    c.grow.ensures.grown

pub returns-clause-plan : goal.returns-clause-plan
returns-clause-plan g c = grown g c

pub returns-clause-only : goal.returns-clause-only
returns-clause-only g c =
    let pins = pins_at c.args.design.now c.args.net in
    if-then {P = IsMaze c.args.capacity.now c.args.loads.now c.args.rule.now.formula c.args.net pins c.args.margin} c.grow.result
    (λ t maze other is_other. maze-only c.args.capacity.now c.args.loads.now c.args.rule.now.formula c.args.net pins c.args.margin t other is_other maze)
    (grown g c)

pub returns-clause-routes : goal.returns-clause-routes
returns-clause-routes g c =
    λ wanted wanted_is.
    let d = c.args.design.now in
    let cells = c.as_slice-pins.result.now in
    let pins : cells ≡ wanted.pins = c.as_slice-pins.ensures ∙ same-net d c.args.net c.net.result.now wanted c.net.ensures.net wanted_is in
    if-three {P = λ t. t.shape ≡ c.frame.result.now.shape} {Q = λ t. cell_at t.nodes 0 ≡ slice_get cells 0} {R = λ t. All (λ pin. IsTrue (holds t pin)) cells} c.grow.result
    (λ t same driver held. record {
      shape = same ∙ ap (λ (f : Frame). f.shape) c.frame.ensures.frame;
      driver = driver ∙ ap (λ (xs : List ℕ). slice_get xs 0) pins;
      pins = subst (All (λ pin. IsTrue (holds t pin))) pins held;
    })
    c.grow.ensures.shape c.grow.ensures.driver c.grow.ensures.pins
