use Rattle.std.proofs.Common.{IsTrue, ◌∙◌}
use Rattle.gr_io.specs.Parts.{AppendsPart}
use Rattle.route_writer.specs.Blocks.{texts_of}
use Rattle.route_writer.proofs.BlockLemmas.{whole-next, whole-all, stands-block, block-cut}
use Rattle.route_writer.proofs.WriteLemmas.{on-err}
use Rattle.route_writer.proofs.blocks.write_blocks.Goals as goal

pub returns-in_err-write_whole-clause-prefix : goal.returns-in_err-write_whole-clause-prefix
returns-in_err-write_whole-clause-prefix g c =
    let part : IsTrue g.K.Sink.tells → AppendsPart (g.K.Sink.written c.args.sink.now) (g.K.Sink.written c.write_whole.new.sink) (texts_of c.args.blocks.now) = λ tells.
    block-cut c.args.blocks.now c.loop-block.block-index c.block-item.result c.loop-block-test.true c.block-item.is c.if-not-block.false
    (g.K.Sink.written c.write_whole.new.sink) c.bytes.result.now c.bytes.ensures (c.in_err-write_whole.ensures.prefix tells) (c.loop-block.invariant.stands tells) in
    on-err c.from_residual.result (IsTrue g.K.Sink.tells → AppendsPart (g.K.Sink.written c.args.sink.now) (g.K.Sink.written c.write_whole.new.sink) (texts_of c.args.blocks.now)) part

pub loop-block-preserved : goal.loop-block-preserved
loop-block-preserved g c = record {
  quiet = c.in_ok-write_whole.ensures.quiet ∙ c.loop-block.invariant.quiet;
  whole = whole-next c.args.blocks.now c.loop-block.block-index c.block-item.result c.loop-block-test.true c.block-item.is c.if-not-block.false c.loop-block.invariant.whole;
  stands = λ tells.
      stands-block c.args.blocks.now c.loop-block.block-index c.block-item.result c.loop-block-test.true c.block-item.is c.if-not-block.false
      (g.K.Sink.written c.write_whole.new.sink) c.bytes.result.now c.bytes.ensures (c.in_ok-write_whole.ensures.ok tells) (c.loop-block.invariant.stands tells);
}

pub returns-clause-whole : goal.returns-clause-whole
returns-clause-whole g c = whole-all c.args.blocks.now c.loop-block.block-index c.loop-block-test.false c.loop-block.invariant.whole
