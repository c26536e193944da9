use Rattle.std.proofs.Common.{◌≡◌, length}
use Rattle.gr_base.specs.NodeIndexes.{Indexes}
use Rattle.net_plan.proofs.GrowLemmas.{HasGrown}
use Rattle.net_plan.proofs.join.tree_of.Given as goal

abbrev pub invariant-loop-point : goal.invariant-loop-point
invariant-loop-point g l = record {
  grown : HasGrown l.fn.shape (g.C.Costs.price l.costs) l.topology l.point-items l.point-index l.tree;
  index : Indexes l.room.1.0 l.tree.nodes;
  room : length l.room.1.0 ≡ length l.fn.room.index;
}
