use Rattle.std.proofs.Common.{take}
use Rattle.book_state.specs.Replicas.{StandsFor}
use Rattle.book_state.proofs.replica.Replica.read.Given as goal

abbrev pub invariant-loop-place : goal.invariant-loop-place
invariant-loop-place l = StandsFor l.capacity (take l.place l.history) l.self
