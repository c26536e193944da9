use Rattle.std.proofs.Common.{List, ℕ, ◌+◌, length, sym, subst, arith}
use Rattle.steiner_topology.specs.Topology.{point, parent_of}
use Rattle.steiner_topology.specs.Children.{lists_of}
use Rattle.steiner_topology.proofs.ChildLemmas.{Hold, child_below, child-own, child-listed}
use Rattle.steiner_topology.proofs.children.put_child_lists.Goals as goal

pub loop-child-preserved-then-parent-child : goal.loop-child-preserved-then-parent-child
loop-child-preserved-then-parent-child c =
    child-own c.args.points.now c.loop-child.child (lists_of c.loop-child.children.items) c.loop-child.invariant c.if-parent-child.true

pub loop-child-preserved : goal.loop-child-preserved
loop-child-preserved c =
    let points = c.args.points.now in
    let child = c.loop-child.child in
    let parent = parent_of points child in
    let H : List (List ℕ) → Type 0 = λ xs. Hold (length points) (child_below points (child + 1)) xs in
    subst H (sym c.in_ok-list.ensures)
    (child-listed points child (lists_of c.loop-child.children.items) c.loop-child.invariant c.if-parent-child.false
    (c.requires.parents child (point (0, 0) 0) (omega arith)))
