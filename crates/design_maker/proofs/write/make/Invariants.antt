use Rattle.std.proofs.Common.{◌≡◌, ◌*◌, ◌≤◌, IsTrue}
use Rattle.route_writer.proofs.WriteLemmas.{Stands}
use Rattle.design_maker.proofs.TextLemmas.{nets_before, text_before, pins_in}
use Rattle.design_maker.proofs.write.make.Given as goal

abbrev pub invariant-loop-net : goal.invariant-loop-net
invariant-loop-net g l = record {
  quiet : g.K.Sink.faults l.sink ≡ g.K.Sink.faults l.fn.sink;
  stands : IsTrue g.K.Sink.tells →
      Stands (g.K.Sink.written l.fn.sink) (g.K.Sink.written l.sink) l.text (text_before l.made l.net);
  draws : l.draws.state ≡ (nets_before l.made l.net).1;
  pins : l.pins ≡ pins_in l.made (nets_before l.made l.net).0;
  few : l.pins ≤ 12 * l.net;
}
