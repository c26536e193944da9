use Rattle.buffer_plan.specs.Picked.{sites_of}
use Rattle.buffer_plan.specs.Gathered.{pairs_in}
use Rattle.buffer_plan.proofs.Standing.{AreStanding}
use Rattle.buffer_plan.proofs.Gathering.{IsOfSinks}
use Rattle.buffer_plan.proofs.lists.start.Given as goal

abbrev pub invariant-loop-node : goal.invariant-loop-node
invariant-loop-node l = AreStanding pairs_in (IsOfSinks (sites_of l.loading)) l.node l.lists.items
