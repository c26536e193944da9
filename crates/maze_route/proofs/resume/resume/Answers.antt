use Rattle.std.proofs.Common.{ℕ, List, All, sym, subst, ◌∙◌}
use Rattle.maze_route.specs.Labels.{label_at}
use Rattle.maze_route.specs.Search.{most_distance, IsAtMost, IsSearching}
use Rattle.maze_route.specs.Steps.{size_of, rest_of, pane_graph}
use Rattle.maze_route.proofs.KeptLemmas.{cells-labelled, requeued}
use Rattle.maze_route.proofs.resume.resume.Goals as goal

pub wait_again-requires : goal.wait_again-requires
wait_again-requires c = record {
  aim = c.requires.aim;
  size = c.requires.size;
  labelled = subst (λ (xs : List ℕ). All (λ cell. IsAtMost (label_at c.args.front.now.labels.costs.items cell) most_distance) xs) (sym (c.deref.ensures.value ∙ c.in_ok-cells.ensures))
      (cells-labelled (pane_graph c.args.pane c.args.tree.now c.requires.kept.price) (size_of c.args.pane) c.args.front.now c.requires.kept.kept);
  empty = c.clear.ensures;
}

pub returns-clause-searching : goal.returns-clause-searching
returns-clause-searching c price kept =
    let graph = pane_graph c.args.pane c.args.tree.now price in
    let P : List ℕ → Type 0 = λ xs. IsSearching graph (rest_of c.args.pane c.args.aim.now) (label_at xs) c.wait_again.new.front.queue.pairs (size_of c.args.pane) in
    c.seed.ensures.searching price
    (subst P (sym c.wait_again.ensures.labels)
    (requeued graph (rest_of c.args.pane c.args.aim.now) (label_at c.args.front.now.labels.costs.items) c.args.front.now.queue.pairs c.wait_again.new.front.queue.pairs
    c.deref.result.now (size_of c.args.pane) kept.rest kept.searching (c.deref.ensures.value ∙ c.in_ok-cells.ensures) c.in_ok-wait_again.ensures.waiting))
