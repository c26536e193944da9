use Rattle.std.proofs.Common.{length}
use Rattle.maze_route.specs.Kept.{Serves}
use Rattle.net_plan.proofs.GrowthLemmas.{IsGrowing}
use Rattle.net_plan.proofs.maze.grow.Given as goal

abbrev pub invariant-loop-alloc : goal.invariant-loop-alloc
invariant-loop-alloc g l = record {
  growing : IsGrowing l.fn.shape l.window (g.C.Costs.price l.costs) l.fn.pins l.tree l.goals.items;
  serves : Serves l.tree l.window (g.C.Costs.price l.costs) l.room;
}

abbrev pub decreases-loop-alloc : goal.decreases-loop-alloc
decreases-loop-alloc g l = length l.goals.items
