use Rattle.std.proofs.Common.{ap, ◌∙◌, Ok, Err, refl}
use Rattle.gr_text.proofs.ReadingLemmas.{token-next, token-ended, token-too_long, advanced-next, advanced-end, advanced-too_long}
use Rattle.gr_text.proofs.reading.next_token.Goals as goal

pub returns-in-Ok-true-clause-reads : goal.returns-in-Ok-true-clause-reads
returns-in-Ok-true-clause-reads g c =
    λ told. token-next c.args.ends _ _ _
    (advanced-next _ c.advance.result _ _ (c.in-Ok-true.is ∙ ap Ok c.in-Ok-true.field-0-test) (c.advance.ensures.token told))

pub returns-in-Ok-false-clause-reads : goal.returns-in-Ok-false-clause-reads
returns-in-Ok-false-clause-reads g c =
    λ told.
    let step = advanced-end _ c.advance.result _ _ (c.in-Ok-false.is ∙ ap Ok c.in-Ok-false.field-0-test) (c.advance.ensures.token told) in
    token-ended c.args.ends _ _ step.0 (rw (c.number.ensures.number told, step.1) refl)

pub returns-in-Err-TooLong-clause-reads : goal.returns-in-Err-TooLong-clause-reads
returns-in-Err-TooLong-clause-reads g c =
    λ told.
    let step = advanced-too_long _ c.advance.result _ _ c.in-Err-TooLong.token (c.in-Err-TooLong.is ∙ ap Err c.in-Err-TooLong.field-0-is) (c.advance.ensures.token told) in
    token-too_long c.args.ends _ _ step.0 step.1
