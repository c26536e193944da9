use Rattle.std.proofs.Common.{◌≡◌, ◌+◌, ◌<◌, length, sym, ap, subst, ◌∙◌, arith}
use Rattle.gr_base.specs.Grid.{IsInside, place_at}
use Rattle.gr_base.specs.declared.grid.Shape.{Shape}
use Rattle.maze_route.specs.Windows.{IsWindow, with_place}
use Rattle.maze_route.specs.declared.window.Window.{Window}
use Rattle.book_state.specs.Extents.{HoldsWires}
use Rattle.book_state.proofs.CrowdTables.{inside-of}
use Rattle.book_state.proofs.EdgeSearch.{wire-inside}
use Rattle.book_state.proofs.ExtentSteps.{window-with, holds-wire, holds-over}
use Rattle.book_state.proofs.extents.window_of.Goals as goal
use Rattle.book_state.proofs.extents.window_of.Goals.{in-Some, in_default}

pub place_of-requires : goal.place_of-requires
place_of-requires c =
    let t = c.args.tree.now in
    let below : c.loop-node.node < length t.nodes = omega (arith, c.loop-node-test.true, c.len-node-end.ensures.len) in
    let edge = (wire-inside t c.shape-shape.result c.loop-node.node c.in-Some.edge c.in-Some.ensures.tree (sym c.shape-shape.ensures.shape) below c.in-Some.ensures.edge).0 in
    inside-of c.shape-shape.result c.in-Some.edge edge

pub loop-node-preserved : goal.loop-node-preserved
loop-node-preserved c =
    let t = c.args.tree.now in
    let node = c.loop-node.node in
    let w = c.loop-node.window in
    let v = c.match-wire_to_parent.window in
    elim c.match-wire_to_parent.branch [
      | in-Some b ↦
          let p = b.place_of.result in
          let e = b.in-Some.edge in
          let grown : v ≡ with_place w p = b.window-is ∙ b.with-window.ensures in
          let inside = subst (λ (g : Shape). IsInside g p) c.shape-shape.ensures.shape b.place_of.ensures.inside in
          let place : p ≡ place_at t.shape e.low = b.place_of.ensures.place ∙ ap (λ (g : Shape). place_at g e.low) c.shape-shape.ensures.shape in (
            subst (λ (u : Window). IsWindow t.shape u) (sym grown) (window-with t.shape w p c.loop-node.invariant.0 inside),
            holds-wire w v t node e p c.loop-node.invariant.1 b.in-Some.ensures.edge place grown,
          )
      | in_default b ↦ (
        subst (λ (u : Window). IsWindow t.shape u) (sym b.window-is) c.loop-node.invariant.0,
        subst (λ (u : Window). HoldsWires u (node + 1) t) (sym b.window-is) (holds-over w t node c.loop-node.invariant.1 b.in_default.ensures.edge),
      )
    ]
