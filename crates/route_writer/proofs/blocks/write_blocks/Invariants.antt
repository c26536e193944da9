use Rattle.std.proofs.Common.{◌≡◌, All, drop, take, IsTrue}
use Rattle.route_writer.specs.Blocks.{texts_of}
use Rattle.route_writer.proofs.WriteLemmas.{Stands}
use Rattle.route_writer.proofs.blocks.write_blocks.Given as goal

abbrev pub invariant-loop-block : goal.invariant-loop-block
invariant-loop-block g l = record {
  quiet : g.K.Sink.faults l.sink ≡ g.K.Sink.faults l.fn.sink;
  whole : All (λ b. IsTrue b.whole) (take l.block-index l.blocks);
  stands : IsTrue g.K.Sink.tells →
      Stands (g.K.Sink.written l.fn.sink) (g.K.Sink.written l.sink) (texts_of (drop l.block-index l.blocks)) (texts_of l.blocks);
}
