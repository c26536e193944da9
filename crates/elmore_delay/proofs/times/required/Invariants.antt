use Rattle.elmore_delay.specs.Placements.{buffers_of}
use Rattle.elmore_delay.specs.Loadings.{rc_of}
use Rattle.elmore_delay.proofs.TimeLemmas.{AreSeen}
use Rattle.elmore_delay.proofs.times.required.Given as goal

abbrev pub invariant-loop-node : goal.invariant-loop-node
invariant-loop-node l = AreSeen (rc_of l.loading) (buffers_of l.loading.library l.placement) l.node l.seen.items
