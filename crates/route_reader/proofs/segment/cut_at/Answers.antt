use Rattle.std.proofs.Common.{sym, ◌∙◌}
use Rattle.route_reader.proofs.PartLemmas.{cut-none, cut-other, cut-is}
use Rattle.route_reader.proofs.segment.cut_at.Goals as goal

pub returns-in_err-at : goal.returns-in_err-at
returns-in_err-at c marks = rw (c.from_residual.ensures) (cut-none c.args.text.now c.args.mark marks (sym c.first_mark.ensures ∙ c.in_err-at.was))

pub returns-then-text-at : goal.returns-then-text-at
returns-then-text-at c marks = cut-other c.args.text.now c.in_ok-at.at c.args.mark marks (sym c.first_mark.ensures ∙ c.in_ok-at.was) c.if-text-at.true

pub returns : goal.returns
returns c marks = cut-is c.args.text.now c.in_ok-at.at c.args.mark marks (sym c.first_mark.ensures ∙ c.in_ok-at.was) c.if-text-at.false
