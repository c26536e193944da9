use Rattle.std.proofs.Common.{◌≡◌}
use Rattle.plan_rows.proofs.mazes.filled.Given as goal

abbrev pub invariant-loop-pair : goal.invariant-loop-pair
invariant-loop-pair l = l.queue.last ≡ 0
