use Rattle.std.proofs.Common.{◌+◌, ◌≤◌, length, IsTrue, ◌∙◌, arith}
use Rattle.gr_base.specs.Trees.{route_edges}
use Rattle.gr_io.specs.Parts.{AppendsPart}
use Rattle.solution_text.specs.WrittenText.{written_text}
use Rattle.route_writer.proofs.WriteLemmas.{text_behind, before-behind, on-err, stands-net, stands-flushed, stands-part, stands-cut}
use Rattle.route_writer.proofs.write.write_solution.Goals as goal

pub returns-in_err-put_net-clause-prefix : goal.returns-in_err-put_net-clause-prefix
returns-in_err-put_net-clause-prefix g c =
    let d = c.args.design.now in
    let sets = route_edges c.args.routes.now in
    let n = c.loop-net.net in
    let most : n ≤ length d.nets = let e = c.nets-net-end.ensures.nets in let lt = c.loop-net-test.true in omega arith in
    let old = g.K.Sink.written c.args.sink.now in
    let now = g.K.Sink.written c.loop-net.sink in
    let part : IsTrue g.K.Sink.tells → AppendsPart old now (written_text d sets) = λ tells.
    stands-part (written_text d sets) (text_behind d sets n) (before-behind d sets n most) (c.loop-net.invariant.stands tells) in
    on-err c.from_residual.result (IsTrue g.K.Sink.tells → AppendsPart old now (written_text d sets)) part

pub loop-net-preserved-then-bytes-lt-FULL : goal.loop-net-preserved-then-bytes-lt-FULL
loop-net-preserved-then-bytes-lt-FULL g c =
    let d = c.args.design.now in
    let sets = route_edges c.args.routes.now in
    let n = c.loop-net.net in
    record {
      quiet = c.loop-net.invariant.quiet;
      stands = λ tells.
          stands-net d c.args.routes.now n c.put_net.new.draft.text c.in_ok-put_net.ensures
          (c.loop-net.invariant.stands tells);
    }

pub returns-in_err-flush-clause-prefix : goal.returns-in_err-flush-clause-prefix
returns-in_err-flush-clause-prefix g c =
    let d = c.args.design.now in
    let sets = route_edges c.args.routes.now in
    let n = c.loop-net.net in
    let most : n + 1 ≤ length d.nets = let e = c.nets-net-end.ensures.nets in let lt = c.loop-net-test.true in omega arith in
    let old = g.K.Sink.written c.args.sink.now in
    let now = g.K.Sink.written c.flush.new.sink in
    let part : IsTrue g.K.Sink.tells → AppendsPart old now (written_text d sets) = λ tells.
    stands-cut now (written_text d sets) (text_behind d sets (n + 1)) (before-behind d sets (n + 1) most) (c.in_err-flush.ensures.prefix tells)
    (stands-net d c.args.routes.now n c.put_net.new.draft.text c.in_ok-put_net.ensures
    (c.loop-net.invariant.stands tells)) in
    on-err c.from_residual-in_err-flush.result (IsTrue g.K.Sink.tells → AppendsPart old now (written_text d sets)) part

pub loop-net-preserved : goal.loop-net-preserved
loop-net-preserved g c =
    let d = c.args.design.now in
    let sets = route_edges c.args.routes.now in
    let n = c.loop-net.net in
    record {
      quiet = c.in_ok-flush.ensures.quiet ∙ c.loop-net.invariant.quiet;
      stands = λ tells.
          stands-flushed (g.K.Sink.written c.flush.new.sink) c.flush.new.self (c.in_ok-flush.ensures.ok tells) c.in_ok-flush.ensures.empty
          (stands-net d c.args.routes.now n c.put_net.new.draft.text c.in_ok-put_net.ensures
          (c.loop-net.invariant.stands tells));
    }

pub returns-in_err-flush-2-clause-prefix : goal.returns-in_err-flush-2-clause-prefix
returns-in_err-flush-2-clause-prefix g c =
    let d = c.args.design.now in
    let sets = route_edges c.args.routes.now in
    let n = c.loop-net.net in
    let most : n ≤ length d.nets = let e = c.nets-net-end.ensures.nets in let last = c.loop-net.auto.net-end in omega arith in
    let old = g.K.Sink.written c.args.sink.now in
    let now = g.K.Sink.written c.flush-2.new.sink in
    let part : IsTrue g.K.Sink.tells → AppendsPart old now (written_text d sets) = λ tells.
    stands-cut now (written_text d sets) (text_behind d sets n) (before-behind d sets n most) (c.in_err-flush-2.ensures.prefix tells) (c.loop-net.invariant.stands tells) in
    on-err c.from_residual-in_err-flush-2.result (IsTrue g.K.Sink.tells → AppendsPart old now (written_text d sets)) part
