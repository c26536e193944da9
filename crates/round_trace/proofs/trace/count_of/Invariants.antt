use Rattle.std.proofs.Common.{take}
use Rattle.round_trace.specs.Counts.{IsCountOf}
use Rattle.round_trace.proofs.trace.count_of.Given as goal

abbrev pub invariant-loop-place : goal.invariant-loop-place
invariant-loop-place l = IsCountOf (take l.place l.history) l.count
