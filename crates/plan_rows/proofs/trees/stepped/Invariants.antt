use Rattle.std.proofs.Common.{◌≡◌}
use Rattle.plan_rows.proofs.trees.stepped.Given as goal

abbrev pub invariant-loop-pair : goal.invariant-loop-pair
invariant-loop-pair l = l.tree.shape ≡ l.fn.shape
