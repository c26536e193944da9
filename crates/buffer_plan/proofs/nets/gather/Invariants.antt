use Rattle.std.proofs.Common.{◌≡◌, ◌++◌, map, Ok}
use Rattle.std.specs.Vec.Iter.{into_iter_len, into_iter_items}
use Rattle.buffer_plan.proofs.nets.gather.Given as goal

abbrev pub invariant-loop-plan : goal.invariant-loop-plan
invariant-loop-plan l = record {
  all : map Ok l.plans.items ++ into_iter_items l.rest ≡ l.fn.planned.items;
}

abbrev pub decreases-loop-plan : goal.decreases-loop-plan
decreases-loop-plan l = into_iter_len l.rest
