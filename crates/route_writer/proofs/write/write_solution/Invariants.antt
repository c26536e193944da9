use Rattle.std.proofs.Common.{◌≡◌, IsTrue}
use Rattle.gr_base.specs.Trees.{route_edges}
use Rattle.route_writer.proofs.WriteLemmas.{text_before, Stands}
use Rattle.route_writer.proofs.write.write_solution.Given as goal

abbrev pub invariant-loop-net : goal.invariant-loop-net
invariant-loop-net g l = record {
  quiet : g.K.Sink.faults l.sink ≡ g.K.Sink.faults l.fn.sink;
  stands : IsTrue g.K.Sink.tells →
      Stands (g.K.Sink.written l.fn.sink) (g.K.Sink.written l.sink) l.draft.text (text_before l.design (route_edges l.routes) l.net);
}
