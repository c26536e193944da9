use Rattle.std.proofs.Common.{◌≡◌, ℕ, length, take}
use Rattle.gr_base.specs.Trees.{is_among}
use Rattle.maze_route.specs.Search.{is_marked}
use Rattle.maze_route.specs.Steps.{size_of}
use Rattle.maze_route.proofs.ends.mark.Given as goal

abbrev pub invariant-loop-end : goal.invariant-loop-end
invariant-loop-end l = record {
  size : length l.marks.items ≡ size_of l.fn.pane;
  marks : (cell : ℕ) → is_marked l.marks.items cell ≡ is_among (take l.end-index l.ends) cell;
}
