use Rattle.std.proofs.Common.{◌≡◌, All, IsTrue, slice_get, sym, subst, ◌∙◌}
use Rattle.gr_base.specs.Trees.{cell_at, holds}
use Rattle.gr_base.specs.declared.grid.Shape.{Shape}
use Rattle.maze_route.proofs.KeptLemmas.{serves-grown}
use Rattle.maze_route.specs.Windows.{IsWindow, IsPassable, LieIn}
use Rattle.net_plan.specs.Mazes.{driver_tree, GrowsTo}
use Rattle.net_plan.proofs.GrowthLemmas.{adds-keeps, growing-first, growing-goals, growing-turn, growing-done, growing-pins, growing-driver, no-goals}
use Rattle.net_plan.proofs.maze.grow.Goals as goal

pub loop-alloc-init : goal.loop-alloc-init
loop-alloc-init g c =
    let growing = growing-first c.args.shape c.args.window (g.C.Costs.price c.args.costs.now) c.args.pins.now c.in_ok-tree.tree c.in_ok-goals.goals.items c.requires.some c.requires.pins
    c.in_ok-tree.ensures.tree c.in_ok-goals.ensures in
    record { growing = growing; serves = c.in_ok-begin.ensures c.in_ok-tree.tree growing.shape }

pub least_walk_by-requires-clause-window : goal.least_walk_by-requires-clause-window
least_walk_by-requires-clause-window g c = subst (λ (s : Shape). IsWindow s c.args.window) (sym c.loop-alloc.invariant.growing.shape) c.requires.window

pub least_walk_by-requires-clause-passable : goal.least_walk_by-requires-clause-passable
least_walk_by-requires-clause-passable g c =
    subst (λ (s : Shape). IsPassable s (g.C.Costs.ways c.args.costs.now) c.args.window) (sym c.loop-alloc.invariant.growing.shape) c.requires.passable

pub least_walk_by-requires-clause-goals : goal.least_walk_by-requires-clause-goals
least_walk_by-requires-clause-goals g c =
    subst (LieIn c.loop-alloc.tree.shape c.args.window) (sym c.deref.ensures.value)
    (growing-goals c.args.shape c.args.window (g.C.Costs.price c.args.costs.now) c.args.pins.now c.loop-alloc.tree c.loop-alloc.goals.items c.requires.pins c.loop-alloc.invariant.growing)

pub loop-alloc-smaller : goal.loop-alloc-smaller
loop-alloc-smaller g c =
    let turn = growing-turn c.args.shape c.args.window (g.C.Costs.price c.args.costs.now) c.args.pins.now c.loop-alloc.tree c.attach.new.self c.in_ok-walk.walk c.as_slice.result.now
    c.as_slice-in-loop-alloc.result.now c.loop-alloc.goals.items c.deref.result.now c.deref-in-loop-alloc.result.now c.in_ok-goals-2.goals.items
    c.as_slice.ensures c.as_slice-in-loop-alloc.ensures c.deref.ensures.value c.deref-in-loop-alloc.ensures.value c.loop-alloc.invariant.growing c.in_ok-walk.ensures.walk c.requires.pins
    c.in_ok-attach.ensures.ok c.in_ok-attach.ensures.cells c.in_ok-attach.ensures.begins c.in_ok-goals-2.ensures in
    turn.less

pub loop-alloc-preserved : goal.loop-alloc-preserved
loop-alloc-preserved g c =
    let turn = growing-turn c.args.shape c.args.window (g.C.Costs.price c.args.costs.now) c.args.pins.now c.loop-alloc.tree c.attach.new.self c.in_ok-walk.walk c.as_slice.result.now
    c.as_slice-in-loop-alloc.result.now c.loop-alloc.goals.items c.deref.result.now c.deref-in-loop-alloc.result.now c.in_ok-goals-2.goals.items
    c.as_slice.ensures c.as_slice-in-loop-alloc.ensures c.deref.ensures.value c.deref-in-loop-alloc.ensures.value c.loop-alloc.invariant.growing c.in_ok-walk.ensures.walk c.requires.pins
    c.in_ok-attach.ensures.ok c.in_ok-attach.ensures.cells c.in_ok-attach.ensures.begins c.in_ok-goals-2.ensures in
    record {
      growing = turn.growing;
      serves = serves-grown c.args.window (g.C.Costs.price c.args.costs.now) c.least_walk_by.new.room c.loop-alloc.tree c.attach.new.self c.in_ok-attach.ensures.begins.shape
          (adds-keeps c.loop-alloc.tree c.attach.new.self c.as_slice.result.now c.in_ok-attach.ensures.cells) c.in_ok-walk.ensures.room;
    }

pub returns-clause-grown : goal.returns-clause-grown
returns-clause-grown g c =
    subst (GrowsTo c.args.window (g.C.Costs.price c.args.costs.now) c.args.pins.now (driver_tree c.args.shape c.args.pins.now)) (sym c.trim.ensures.same)
    (growing-done c.args.shape c.args.window (g.C.Costs.price c.args.costs.now) c.args.pins.now c.loop-alloc.tree c.loop-alloc.goals.items c.loop-alloc.invariant.growing
    (no-goals c.loop-alloc.goals.items _ c.loop-alloc.goals.ok.0 (sym c.is_empty.ensures ∙ c.loop-alloc-test.false)))

pub returns-clause-driver : goal.returns-clause-driver
returns-clause-driver g c =
    subst (λ t. cell_at t.nodes 0 ≡ slice_get c.args.pins.now 0) (sym c.trim.ensures.same)
    (growing-driver c.args.shape c.args.window (g.C.Costs.price c.args.costs.now) c.args.pins.now c.loop-alloc.tree c.loop-alloc.goals.items c.requires.some c.loop-alloc.invariant.growing)

pub returns-clause-pins : goal.returns-clause-pins
returns-clause-pins g c =
    subst (λ t. All (λ pin. IsTrue (holds t pin)) c.args.pins.now) (sym c.trim.ensures.same)
    (growing-pins c.args.shape c.args.window (g.C.Costs.price c.args.costs.now) c.args.pins.now c.loop-alloc.tree c.loop-alloc.goals.items c.loop-alloc.invariant.growing
    (no-goals c.loop-alloc.goals.items _ c.loop-alloc.goals.ok.0 (sym c.is_empty.ensures ∙ c.loop-alloc-test.false)))
