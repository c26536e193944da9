use Rattle.std.proofs.Common.{◌≡◌, ℕ, length, Option}
use Rattle.gr_base.specs.declared.grid.Edge.{Edge}
use Rattle.maze_route.specs.Labels.{label_at}
use Rattle.maze_route.specs.Search.{IsSearching}
use Rattle.maze_route.specs.Steps.{size_of, rest_of, pane_graph, IsSeededTo}
use Rattle.maze_route.proofs.resume.seed.Given as goal

abbrev pub invariant-loop-node : goal.invariant-loop-node
invariant-loop-node l = record {
  size : length l.front.labels.costs.items ≡ size_of l.pane;
  last : l.front.queue.last ≡ 0;
  seeded : IsSeededTo l.pane l.tree (label_at l.front.labels.costs.items) l.node;
  searching : (price : Edge → Option ℕ) →
      IsSearching (pane_graph l.pane l.tree price) (rest_of l.pane l.aim) (label_at l.fn.front.labels.costs.items) l.fn.front.queue.pairs (size_of l.pane) →
      IsSearching (pane_graph l.pane l.tree price) (rest_of l.pane l.aim) (label_at l.front.labels.costs.items) l.front.queue.pairs (size_of l.pane);
}
