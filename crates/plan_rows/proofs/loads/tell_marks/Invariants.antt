use Rattle.std.proofs.Common.{◌≡◌}
use Rattle.plan_rows.proofs.loads.tell_marks.Given as goal

abbrev pub invariant-loop : goal.invariant-loop
invariant-loop g l = l.loads.shape ≡ l.capacity.shape
