use Rattle.std.proofs.Common.{◌≤◌, length}
use Rattle.gr_base.specs.Grid.{cells_of}
use Rattle.gr_base.specs.Trees.{route_edges}
use Rattle.route_evaluator.specs.Counts.{AreTallied}
use Rattle.route_evaluator.proofs.RouteTrees.{AreTreesBefore}
use Rattle.route_evaluator.proofs.judgement.evaluate_routes.Given as goal

abbrev pub invariant-loop-net : goal.invariant-loop-net
invariant-loop-net l = record {
  tallied : AreTallied l.design (route_edges l.routes) l.net l.tally;
  index : cells_of l.design.frame.shape ≤ length l.index;
  trees : AreTreesBefore l.design l.routes l.net;
}
