use Rattle.elmore_delay.specs.Placements.{buffers_of}
use Rattle.elmore_delay.specs.Loadings.{rc_of}
use Rattle.elmore_delay.proofs.DelayLemmas.{IsOnPath}
use Rattle.elmore_delay.proofs.delay.delay_to.Given as goal

abbrev pub invariant-loop-at : goal.invariant-loop-at
invariant-loop-at l = IsOnPath (rc_of l.loading) (buffers_of l.loading.library l.placement) l.node l.at l.delay

abbrev pub decreases-loop-at : goal.decreases-loop-at
decreases-loop-at l = l.at
