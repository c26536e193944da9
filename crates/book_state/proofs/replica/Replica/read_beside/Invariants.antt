use Rattle.std.proofs.Common.{take, IsTrue}
use Rattle.book_state.specs.Replicas.{StandsFor}
use Rattle.book_state.specs.Touches.{AreTouches}
use Rattle.book_state.proofs.replica.Replica.read_beside.Given as goal

abbrev pub invariant-loop-place : goal.invariant-loop-place
invariant-loop-place l =
    StandsFor l.capacity (take l.place l.history) l.self ×
    (IsTrue l.still → AreTouches l.capacity l.sought.formula l.sought.net l.sought.window (take l.fn.self.front l.history) (take l.place l.history) l.touches.items)
