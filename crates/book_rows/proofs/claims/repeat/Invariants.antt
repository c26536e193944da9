use Rattle.std.proofs.Common.{take}
use Rattle.book_state.specs.Replicas.{StandsFor}
use Rattle.book_rows.proofs.claims.repeat.Given as goal

-- the replica stands for a first part of what the pass has seen
abbrev pub invariant-loop : goal.invariant-loop
invariant-loop g l = StandsFor g.N.BookName.capacity (take l.replica.front l.pass.seen) l.replica
