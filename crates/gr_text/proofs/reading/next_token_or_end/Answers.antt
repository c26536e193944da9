use Rattle.std.proofs.Common.{ap, ◌∙◌, Err}
use Rattle.gr_text.proofs.ReadingLemmas.{token_or_end-step, token_or_end-too_long, advanced-too_long}
use Rattle.gr_text.proofs.reading.next_token_or_end.Goals as goal

pub returns-in-Ok-clause-reads : goal.returns-in-Ok-clause-reads
returns-in-Ok-clause-reads g c =
    λ told. token_or_end-step c.args.ends _ c.advance.result _ _ c.in-Ok.more c.in-Ok.is (c.advance.ensures.token told)

pub returns-in-Err-TooLong-clause-reads : goal.returns-in-Err-TooLong-clause-reads
returns-in-Err-TooLong-clause-reads g c =
    λ told.
    let step = advanced-too_long _ c.advance.result _ _ c.in-Err-TooLong.token (c.in-Err-TooLong.is ∙ ap Err c.in-Err-TooLong.field-0-is) (c.advance.ensures.token told) in
    token_or_end-too_long c.args.ends _ _ step.0 step.1
