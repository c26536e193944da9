use Rattle.std.proofs.Common.{◌≡◌, ◌++◌, ℕ, List, All, length, IsTrue, sym, ap, subst, ◌∙◌, arith}
use Rattle.beside_calls.specs.Blocks.{block_start}
use Rattle.gr_io.specs.Parts.{AppendsPart}
use Rattle.route_writer.specs.Blocks.{texts_of}
use Rattle.route_writer.specs.RouteTexts.{nets_text, routes_text}
use Rattle.route_writer.specs.declared.blocks.BlockRecords.{BlockRecords}
use Rattle.route_writer.proofs.BlockLemmas.{batch-written, batch-cut}
use Rattle.route_writer.proofs.WriteLemmas.{on-err}
use Rattle.route_writer.proofs.write_by.write_solution_by.Goals as goal

pub returns-in_err-write_blocks-clause-prefix : goal.returns-in_err-write_blocks-clause-prefix
returns-in_err-write_blocks-clause-prefix g c =
    let d = c.args.design.now in
    let trees = c.args.routes.now in
    let kept = c.loop-from.invariant in
    let part : IsTrue g.K.Sink.tells → AppendsPart (g.K.Sink.written c.args.sink.now) (g.K.Sink.written c.write_blocks.new.sink) (routes_text d trees) = λ tells.
    batch-cut d trees c.loop-from.from c.loop-from.size c.args.workers c.put_blocks.new.blocks.items kept.within (c.put_blocks.ensures.long ∙ kept.count) c.put_blocks.ensures.put
    (g.K.Sink.written c.args.sink.now) (g.K.Sink.written c.loop-from.sink) (g.K.Sink.written c.write_blocks.new.sink) (kept.text tells)
    (subst (λ (bs : List BlockRecords). AppendsPart (g.K.Sink.written c.loop-from.sink) (g.K.Sink.written c.write_blocks.new.sink) (texts_of bs)) c.deref.ensures.value
    (c.in_err-write_blocks.ensures.prefix tells)) in
    on-err c.from_residual-in_err-write_blocks.result
    (IsTrue g.K.Sink.tells → AppendsPart (g.K.Sink.written c.args.sink.now) (g.K.Sink.written c.write_blocks.new.sink) (routes_text d trees)) part

pub loop-from-preserved : goal.loop-from-preserved
loop-from-preserved g c =
    let d = c.args.design.now in
    let trees = c.args.routes.now in
    let kept = c.loop-from.invariant in
    let blocks : List BlockRecords = c.put_blocks.new.blocks.items in
    let long : length blocks ≡ c.args.workers = c.put_blocks.ensures.long ∙ kept.count in
    let last : c.block_start-from.result ≡ block_start (length d.nets) c.loop-from.from c.loop-from.size c.args.workers =
    c.block_start-from.ensures ∙ ap (λ (n : ℕ). block_start n c.loop-from.from c.loop-from.size c.args.workers) c.nets-in-loop-from.ensures.nets in
    record {
      count = long;
      some = c.next_size-size.ensures.some;
      most = c.next_size-size.ensures.most;
      within = omega (arith, last);
      quiet = c.in_ok-write_blocks.ensures.quiet ∙ kept.quiet;
      text = λ tells.
          batch-written d trees c.loop-from.from c.loop-from.size c.args.workers blocks kept.within long c.put_blocks.ensures.put
          (g.K.Sink.written c.args.sink.now) (g.K.Sink.written c.loop-from.sink) (g.K.Sink.written c.write_blocks.new.sink) (kept.text tells)
          (c.in_ok-write_blocks.ensures.ok tells ∙ ap (λ (bs : List BlockRecords). g.K.Sink.written c.loop-from.sink ++ texts_of bs) c.deref.ensures.value)
          (subst (λ (bs : List BlockRecords). All (λ b. IsTrue b.whole) bs) c.deref.ensures.value c.in_ok-write_blocks.ensures.whole)
          ∙ ap (λ (n : ℕ). g.K.Sink.written c.args.sink.now ++ nets_text d trees 0 n) (sym last);
    }
