use Rattle.std.proofs.Common.{◌≡◌}
use Rattle.elmore_delay.specs.Placements.{buffers_of}
use Rattle.elmore_delay.specs.Loadings.{rc_of}
use Rattle.elmore_delay.proofs.DelayLemmas.{load_to}
use Rattle.elmore_delay.proofs.delay.load_below.Given as goal

abbrev pub invariant-loop-node : goal.invariant-loop-node
invariant-loop-node l = l.load ≡ load_to (rc_of l.loading) (buffers_of l.loading.library l.placement) l.v l.node
