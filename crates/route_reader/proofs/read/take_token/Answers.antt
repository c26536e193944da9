use Rattle.std.proofs.Common.{Err, sym, ap, ◌∙◌}
use Rattle.gr_text.specs.Reads.{word_if}
use Rattle.route_reader.proofs.TextLemmas.{takes-fails, says-end, says-next, says-fault}
use Rattle.route_reader.proofs.read.take_token.Goals as goal

pub returns-in_err-next_token_or_end-clause-takes : goal.returns-in_err-next_token_or_end-clause-takes
returns-in_err-next_token_or_end-clause-takes g c s gathers =
    takes-fails c.args.design.now s g.S.TokenSource.tells (g.S.TokenSource.place c.args.source.now) _ _ _ (word_if (g.S.TokenSource.word c.next_token_or_end.new.source)) c.from_residual.result
    c.in_err-next_token_or_end.field-0.0 c.from_residual.ensures c.in_err-next_token_or_end.ensures.reads

pub returns-then-not-branch-clause-takes : goal.returns-then-not-branch-clause-takes
returns-then-not-branch-clause-takes g c s gathers = (
  s,
  gathers,
  λ told.
      says-end c.args.design.now s (g.S.TokenSource.place c.args.source.now) (g.S.TokenSource.place c.next_token_or_end.new.source)
      (rw (c.if-not-branch.true) at (c.in_ok-next_token_or_end.ensures.reads told)),
)

pub returns-in-Ok-clause-takes : goal.returns-in-Ok-clause-takes
returns-in-Ok-clause-takes g c s gathers =
    let taken = rw (c.in-Ok.is) at (c.take.ensures s gathers) in (
      taken.0,
      taken.2,
      λ told.
          says-next c.args.design.now s (g.S.TokenSource.place c.args.source.now) c.word.result.now (g.S.TokenSource.place c.next_token_or_end.new.source) taken.0
          (rw (c.if-not-branch.false, sym c.word.ensures) at (c.in_ok-next_token_or_end.ensures.reads told)) taken.1,
    )

pub returns-in-Err-Fault-clause-takes : goal.returns-in-Err-Fault-clause-takes
returns-in-Err-Fault-clause-takes g c s gathers told =
    let refused = rw (c.in-Err-Fault.is, c.in-Err-Fault.field-0-is) at (c.take.ensures s gathers) in
    says-fault c.args.design.now s (g.S.TokenSource.place c.args.source.now) c.word.result.now (g.S.TokenSource.place c.next_token_or_end.new.source) c.in-Err-Fault.fault
    (rw (c.if-not-branch.false, sym c.word.ensures) at (c.in_ok-next_token_or_end.ensures.reads told)) refused
    ∙ ap (λ n. Err (c.in-Err-Fault.fault, n)) (sym (c.number.ensures.number told))
