use Rattle.std.proofs.Common.{◌≡◌, drop}
use Rattle.round_core.specs.Worlds.{first_busy}
use Rattle.round_core.proofs.phases.first_busy.Given as goal

abbrev pub invariant-loop-phase : goal.invariant-loop-phase
invariant-loop-phase l = first_busy (drop l.phase-index l.phases) ≡ first_busy l.phases
