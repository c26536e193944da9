use Rattle.std.proofs.Common.{◌≡◌, None, replicate}
use Rattle.elmore_delay.proofs.plans.Plans.new.Given as goal

abbrev pub invariant-loop : goal.invariant-loop
invariant-loop l = l.plans.items ≡ replicate l.counter None
