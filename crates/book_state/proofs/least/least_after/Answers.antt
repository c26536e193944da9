use Rattle.std.proofs.Common.{sym, ap, subst, ◌∙◌, ◌∷◌, ◌++◌, []}
use Rattle.book_state.specs.LeastSearch.{IsFirstLeast}
use Rattle.book_state.specs.Marks.{overflow_in}
use Rattle.book_state.specs.declared.least.MarkedAt.{MarkedAt}
use Rattle.book_state.proofs.LeastMarks.{least-idle, least-mark, no-mark}
use Rattle.book_state.proofs.least.least_after.Goals as goal

pub returns-in-Marked : goal.returns-in-Marked
returns-in-Marked c = λ h e reply grown before.
    let new : MarkedAt = record { overflow = c.in-Marked.overflow; length = c.args.grown } in
    subst (IsFirstLeast (h ++ e ∷ [])) (sym c.lesser_of.ensures)
    (least-mark h e c.args.least new (ap overflow_in (reply ∙ c.in-Marked.is)) grown before)

pub returns-in_default : goal.returns-in_default
returns-in_default c = λ h e reply grown before.
    least-idle h e c.args.least (ap overflow_in reply ∙ no-mark c.args.reply c.in_default.not-Marked) before
