use Rattle.std.proofs.Common.{ap, ◌∙◌}
use Rattle.std.specs.Option.{option_map}
use Rattle.word_reader.specs.Orders.{named}
use Rattle.word_reader.proofs.reader.order_with.Goals as goal

pub returns-in_err-sorted-clause-order : goal.returns-in_err-sorted-clause-order
returns-in_err-sorted-clause-order c =
    ap (option_map named) c.from_residual.ensures ∙ c.in_err-sorted.ensures c.args.command

pub returns-clause-order : goal.returns-clause-order
returns-clause-order c = c.order_by.ensures.order ∙ c.in_ok-sorted.ensures c.args.command
