use Rattle.std.proofs.Common.{◌≡◌, ◌++◌, take, drop}
use Rattle.net_plan.specs.FlatTrees.{up_to_tree}
use Rattle.net_plan.proofs.join.up_to_tree.Given as goal

abbrev pub invariant-loop-at : goal.invariant-loop-at
invariant-loop-at l = up_to_tree l.tree l.walk ≡ take l.at l.walk ++ up_to_tree l.tree (drop l.at l.walk)
