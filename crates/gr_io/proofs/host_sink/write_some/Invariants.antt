use Rattle.std.specs.Io.KnownBytes.{Keeps}
use Rattle.gr_io.proofs.host_sink.write_some.Given as goal

abbrev pub invariant-loop : goal.invariant-loop
invariant-loop g l = Keeps (g.W.Write.contents l.fn.stream) (g.W.Write.contents l.stream)
