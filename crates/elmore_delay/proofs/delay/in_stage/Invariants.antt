use Rattle.elmore_delay.specs.Placements.{buffers_of}
use Rattle.elmore_delay.specs.Loadings.{rc_of}
use Rattle.elmore_delay.proofs.DelayLemmas.{IsClimb}
use Rattle.elmore_delay.proofs.delay.in_stage.Given as goal

abbrev pub invariant-loop-at : goal.invariant-loop-at
invariant-loop-at l = IsClimb (rc_of l.loading) (buffers_of l.loading.library l.placement) l.v l.node l.at

abbrev pub decreases-loop-at : goal.decreases-loop-at
decreases-loop-at l = l.at
