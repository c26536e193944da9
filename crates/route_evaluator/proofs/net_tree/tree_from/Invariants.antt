use Rattle.route_evaluator.specs.EdgeNumbers.{edges_numbered}
use Rattle.route_evaluator.proofs.PlantLemmas.{IsPlanted}
use Rattle.route_evaluator.proofs.net_tree.tree_from.Given as goal

abbrev pub invariant-loop-place : goal.invariant-loop-place
invariant-loop-place l = IsPlanted l.fn.shape (edges_numbered l.edges.numbers) l.cells l.place l.tree
