use Rattle.std.proofs.Common.{◌≡◌, [], length}
use Rattle.gr_io.proofs.Standing.{Standing}
use Rattle.gr_io.proofs.whole.write_whole.Given as goal

abbrev pub invariant-loop-rest : goal.invariant-loop-rest
invariant-loop-rest g l = record {
  quiet : g.K.Sink.faults l.sink ≡ g.K.Sink.faults l.fn.sink;
  standing : Standing g.K.Sink.tells (g.K.Sink.written l.fn.sink) (g.K.Sink.written l.sink) l.rest l.bytes;
  same : l.bytes ≡ [] → l.sink ≡ l.fn.sink;
}

abbrev pub decreases-loop-rest : goal.decreases-loop-rest
decreases-loop-rest g l = length l.rest
