use Rattle.std.proofs.Common.{ℕ, ◌*◌, length}
use Rattle.buffer_plan.specs.Picked.{sites_of}
use Rattle.buffer_plan.specs.Gathered.{most_steps}
use Rattle.polar_lists.specs.BothLists.{AreBothGathered}
use Rattle.buffer_plan.proofs.Standing.{AreHungFrom}
use Rattle.polar_lists.proofs.hanging.hang_all.Given as goal

abbrev pub invariant-loop-node : goal.invariant-loop-node
invariant-loop-node g l =
    AreHungFrom (λ (n : ℕ). AreBothGathered (sites_of l.loading) n l.trail l.lists.items) (2 * most_steps (length l.library.kinds) (length l.tree.nodes)) (length l.tree.nodes)
    l.node l.fn.steps l.steps
