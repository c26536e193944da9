use Rattle.std.proofs.Common.{◌≡◌, not, filter, take}
use Rattle.gr_base.specs.Trees.{holds}
use Rattle.net_plan.proofs.maze.missing.Given as goal

abbrev pub invariant-loop-pin : goal.invariant-loop-pin
invariant-loop-pin l = l.goals.items ≡ filter (λ pin. not (holds l.tree pin)) (take l.pin-index l.pins)
