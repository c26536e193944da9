use Rattle.std.proofs.Common.{◌+◌, ◌≡◌, IsTrue, refl, sym, ◌∙◌, arith}
use Rattle.gr_io.specs.Parts.{AppendsPart}
use Rattle.route_writer.proofs.WriteLemmas.{on-err, stands-flushed, stands-whole}
use Rattle.design_maker.specs.Texts.{text_of}
use Rattle.design_maker.proofs.TextLemmas.{state-none, state-more, pins-none, pins-more, count-whole}
use Rattle.design_maker.proofs.GatherLemmas.{nothing-yet, stands-head, stands-more, stands-end, part-written, part-cut, end-cut}
use Rattle.design_maker.proofs.write.make.Goals as goal

pub returns-in_err-middles-clause-prefix : goal.returns-in_err-middles-clause-prefix
returns-in_err-middles-clause-prefix g c =
    let old = g.K.Sink.written c.args.sink.now in
    on-err c.from_residual.result (IsTrue g.K.Sink.tells → AppendsPart old old (text_of c.args.made)) (λ tells. nothing-yet old (text_of c.args.made))

pub returns-in_err-put_head-clause-prefix : goal.returns-in_err-put_head-clause-prefix
returns-in_err-put_head-clause-prefix g c =
    let old = g.K.Sink.written c.args.sink.now in
    on-err c.from_residual-in_err-put_head.result (IsTrue g.K.Sink.tells → AppendsPart old old (text_of c.args.made)) (λ tells. nothing-yet old (text_of c.args.made))

pub loop-net-init : goal.loop-net-init
loop-net-init g c = record {
  quiet = refl;
  stands = λ tells.
      stands-head c.args.made (g.K.Sink.written c.args.sink.now) c.new-text.result c.put_head.new.text c.new-text.ensures c.in_ok-put_head.ensures;
  draws = c.of-draws.ensures ∙ sym (state-none c.args.made);
  pins = sym (pins-none c.args.made);
  few = omega arith;
}

pub returns-in_err-more-clause-prefix : goal.returns-in_err-more-clause-prefix
returns-in_err-more-clause-prefix g c =
    let l = c.loop-net in
    let old = g.K.Sink.written c.args.sink.now in
    let now = g.K.Sink.written l.sink in
    on-err c.from_residual-in_err-more.result (IsTrue g.K.Sink.tells → AppendsPart old now (text_of c.args.made))
    (λ tells. part-written c.args.made l.net (let below = c.loop-net-test.true in omega arith) (l.invariant.stands tells))

pub loop-net-preserved-then-bytes-lt-FULL : goal.loop-net-preserved-then-bytes-lt-FULL
loop-net-preserved-then-bytes-lt-FULL g c =
    let l = c.loop-net in
    let few = l.invariant.few in
    let more = pins-more c.args.made l.net l.draws.state l.invariant.draws in
    record {
      quiet = l.invariant.quiet;
      stands = λ tells.
          stands-more c.args.made l.net l.draws.state c.put_net.new.text l.invariant.draws c.in_ok-more.ensures.text (l.invariant.stands tells);
      draws = c.in_ok-more.ensures.draws ∙ state-more c.args.made l.net l.draws.state l.invariant.draws;
      pins = omega (arith, l.invariant.pins, c.in_ok-more.ensures.pins, more);
      few = omega (arith, c.in_ok-more.ensures.few);
    }

pub returns-in_err-flush-clause-prefix : goal.returns-in_err-flush-clause-prefix
returns-in_err-flush-clause-prefix g c =
    let l = c.loop-net in
    let old = g.K.Sink.written c.args.sink.now in
    let now = g.K.Sink.written c.flush.new.sink in
    on-err c.from_residual-in_err-flush.result (IsTrue g.K.Sink.tells → AppendsPart old now (text_of c.args.made))
    (λ tells. part-cut c.args.made (l.net + 1) now (let below = c.loop-net-test.true in omega arith) (c.in_err-flush.ensures.prefix tells)
    (stands-more c.args.made l.net l.draws.state c.put_net.new.text l.invariant.draws c.in_ok-more.ensures.text (l.invariant.stands tells)))

pub loop-net-preserved : goal.loop-net-preserved
loop-net-preserved g c =
    let l = c.loop-net in
    let few = l.invariant.few in
    let more = pins-more c.args.made l.net l.draws.state l.invariant.draws in
    record {
      quiet = c.in_ok-flush.ensures.quiet ∙ l.invariant.quiet;
      stands = λ tells.
          stands-flushed (g.K.Sink.written c.flush.new.sink) c.flush.new.self (c.in_ok-flush.ensures.ok tells) c.in_ok-flush.ensures.empty
          (stands-more c.args.made l.net l.draws.state c.put_net.new.text l.invariant.draws c.in_ok-more.ensures.text (l.invariant.stands tells));
      draws = c.in_ok-more.ensures.draws ∙ state-more c.args.made l.net l.draws.state l.invariant.draws;
      pins = omega (arith, l.invariant.pins, c.in_ok-more.ensures.pins, more);
      few = omega (arith, c.in_ok-more.ensures.few);
    }

pub returns-in_err-put_end-clause-prefix : goal.returns-in_err-put_end-clause-prefix
returns-in_err-put_end-clause-prefix g c =
    let l = c.loop-net in
    let old = g.K.Sink.written c.args.sink.now in
    let now = g.K.Sink.written l.sink in
    on-err c.from_residual-in_err-put_end.result (IsTrue g.K.Sink.tells → AppendsPart old now (text_of c.args.made))
    (λ tells. part-written c.args.made l.net (let last = l.auto.net-end in omega arith) (l.invariant.stands tells))

pub returns-in_err-flush-2-clause-prefix : goal.returns-in_err-flush-2-clause-prefix
returns-in_err-flush-2-clause-prefix g c =
    let l = c.loop-net in
    let old = g.K.Sink.written c.args.sink.now in
    let now = g.K.Sink.written c.flush-2.new.sink in
    let all : l.net ≡ c.args.made.nets = let last = l.auto.net-end in let end = c.loop-net-test.false in omega arith in
    on-err c.from_residual-in_err-flush-2.result (IsTrue g.K.Sink.tells → AppendsPart old now (text_of c.args.made))
    (λ tells. end-cut c.args.made now (c.in_err-flush-2.ensures.prefix tells)
    (stands-end c.args.made l.net c.put_end.new.text all c.in_ok-put_end.ensures (l.invariant.stands tells)))

pub returns-clause-ok : goal.returns-clause-ok
returns-clause-ok g c =
    let l = c.loop-net in
    let all : l.net ≡ c.args.made.nets = let last = l.auto.net-end in let end = c.loop-net-test.false in omega arith in
    λ tells.
    stands-whole (g.K.Sink.written c.flush-2.new.sink) (c.in_ok-flush-2.ensures.ok tells)
    (stands-end c.args.made l.net c.put_end.new.text all c.in_ok-put_end.ensures (l.invariant.stands tells))

pub returns-clause-count : goal.returns-clause-count
returns-clause-count g c =
    let l = c.loop-net in
    count-whole c.args.made l.net l.pins (let last = l.auto.net-end in let end = c.loop-net-test.false in omega arith) l.invariant.pins
