use Rattle.elmore_delay.specs.Loadings.{rc_of}
use Rattle.buffer_plan.proofs.Standing.{AreStanding}
use Rattle.polar_lists.specs.BothLists.{sides_in, AreOfSinks}
use Rattle.polar_lists.proofs.lists.start.Given as goal

abbrev pub invariant-loop-node : goal.invariant-loop-node
invariant-loop-node l = AreStanding sides_in (AreOfSinks (rc_of l.loading)) l.node l.lists.items
