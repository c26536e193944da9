use Rattle.std.proofs.Common.{◌≡◌, ◌*◌}
use Rattle.gr_base.specs.Grid.{cells_of}
use Rattle.route_reader.specs.Solutions.{edges_by}
use Rattle.route_evaluator.specs.Counts.{AreCharged, AreTallied}
use Rattle.route_evaluator.specs.NumberSets.{empty_set}
use Rattle.route_evaluator.proofs.judgement.evaluate.Given as goal

abbrev pub invariant-loop-net : goal.invariant-loop-net
invariant-loop-net l = record {
  charged : AreCharged l.design (edges_by l.solution) l.net l.loads;
  tallied : AreTallied l.design (edges_by l.solution) l.net l.tally;
  edges : l.edges ≡ empty_set (3 * cells_of l.design.frame.shape);
  reached : l.reached.cells ≡ empty_set (cells_of l.design.frame.shape);
}
