use Rattle.std.proofs.Common.{◌≡◌, take}
use Rattle.maze_route.specs.Kept.{AreWaiting}
use Rattle.maze_route.specs.Labels.{label_at}
use Rattle.maze_route.specs.Steps.{rest_of}
use Rattle.maze_route.proofs.resume.wait_again.Given as goal

abbrev pub invariant-loop-cell : goal.invariant-loop-cell
invariant-loop-cell l = record {
  labels : l.front.labels.costs.items ≡ l.fn.front.labels.costs.items;
  last : l.front.queue.last ≡ 0;
  waiting : AreWaiting (rest_of l.pane l.aim) (label_at l.fn.front.labels.costs.items) l.front.queue.pairs (take l.cell-index l.cells);
}
