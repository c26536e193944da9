use Rattle.std.proofs.Common.{◌≡◌, ℕ, ◌≤◌, length}
use Rattle.route_evaluator.specs.RunSets.{IsMakerOf}
use Rattle.route_reader.specs.Solutions.{edges_by}
use Rattle.panel_text.specs.Gathered.{AreGathered}
use Rattle.panel_text.proofs.gathered.gather.Given as goal

abbrev pub invariant-loop-net : goal.invariant-loop-net
invariant-loop-net l = record {
  some : l.net ≤ length l.design.nets;
  maker : IsMakerOf l.design.frame.shape l.maker;
  runs : AreGathered l.design (edges_by l.solution) l.net l.runs;
}

abbrev pub decreases-loop-net : goal.decreases-loop-net
decreases-loop-net l = l.net
