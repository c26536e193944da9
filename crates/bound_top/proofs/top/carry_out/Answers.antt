use Rattle.std.proofs.Common.{Some, map, string_bytes, ap, ◌∙◌}
use Rattle.word_reader.specs.Orders.{named, order_of}
use Rattle.word_reader.specs.declared.order.Order.{Order as Given}
use Rattle.word_reader.specs.declared.program.Program.TheVariants.{Grbound}
use Rattle.bound_top.proofs.BoundingLemmas.{bound-leaves}
use Rattle.bound_top.proofs.top.carry_out.Goals as goal

pub returns-in-Ok-Bound-clause-leaves : goal.returns-in-Ok-Bound-clause-leaves
returns-in-Ok-Bound-clause-leaves g c =
    bound-leaves (order_of Grbound (map string_bytes c.args.words.now)) c.in-Ok-Bound.design.now c.in-Ok-Bound.via_cost c.in-Ok-Bound.steps c.in-Ok-Bound.workers _ _ c.read_and_bound.result
    (c.in-Ok-Bound.ensures.order ∙ ap (λ (o : Given). Some (named o)) c.in-Ok-Bound.field-0-is) c.read_and_bound.ensures.leaves
