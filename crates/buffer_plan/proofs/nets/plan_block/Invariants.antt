use Rattle.std.proofs.Common.{◌≡◌, ◌≤◌, length}
use Rattle.gr_base.specs.Grid.{cells_of}
use Rattle.buffer_plan.specs.Rules.{AreByRule}
use Rattle.buffer_plan.proofs.nets.plan_block.Given as goal

abbrev pub invariant-loop-at : goal.invariant-loop-at
invariant-loop-at g l = record {
  index : cells_of l.nets.design.now.frame.shape ≤ length l.index;
  long : length l.block ≡ length l.fn.block;
  plans : AreByRule g.P.NetPlanner.rule l.first l.nets.design.now l.nets.library.now l.nets.routes.now l.block;
}
