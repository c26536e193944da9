use Rattle.maze_route.specs.Windows.{IsWindow}
use Rattle.book_state.specs.Extents.{HoldsWires}
use Rattle.book_state.proofs.extents.window_of.Given as goal

abbrev pub invariant-loop-node : goal.invariant-loop-node
invariant-loop-node l = IsWindow l.tree.shape l.window × HoldsWires l.window l.node l.tree
