use Rattle.std.proofs.Common.{◌≤◌, length}
use Rattle.gr_base.specs.Grid.{cells_of}
use Rattle.text_commands.specs.Placing.{IsTold}
use Rattle.text_commands.proofs.placing.told_of.Given as goal

abbrev pub invariant-loop-net : goal.invariant-loop-net
invariant-loop-net g l = record {
  low : l.first ≤ l.net;
  index : cells_of l.nets.design.now.frame.shape ≤ length l.index;
  told : IsTold g.P.NetPlanner.rule l.nets.design.now l.nets.library.now l.nets.routes.now l.first l.net l.told;
}
