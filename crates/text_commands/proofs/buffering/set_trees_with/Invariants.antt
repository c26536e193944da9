use Rattle.std.proofs.Common.{◌≡◌, length}
use Rattle.route_reader.specs.Solutions.{edges_by}
use Rattle.route_evaluator.specs.TreeSets.{AreSetsOf}
use Rattle.text_commands.proofs.BufferingLemmas.{AreTreesBelow}
use Rattle.text_commands.proofs.buffering.set_trees_with.Given as goal

abbrev pub invariant-loop-net : goal.invariant-loop-net
invariant-loop-net l = record {
  long : length l.trees ≡ length l.design.nets;
  sets : AreSetsOf l.design.frame.shape l.maker;
  trees : AreTreesBelow l.net l.design (edges_by l.solution) l.trees;
}
