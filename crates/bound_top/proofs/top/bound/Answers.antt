use Rattle.std.proofs.Common.{None, map, string_bytes, refl}
use Rattle.command_form.proofs.EndLemmas.{by-status, ends-with}
use Rattle.word_reader.specs.Orders.{order_of}
use Rattle.word_reader.specs.declared.program.Program.TheVariants.{Grbound}
use Rattle.bound_top.proofs.BoundingLemmas.{asked-lawful, untouched}
use Rattle.bound_top.proofs.EndLemmas.{no-part}
use Rattle.bound_top.proofs.top.bound.Goals as goal

pub returns-clause-by_status : goal.returns-clause-by_status
returns-clause-by_status g c =
    let sink = g.E.Sink in
    let err = c.args.err.now in
    by-status Grbound _ (asked-lawful (order_of Grbound (map string_bytes c.args.words.now))) _ _ _ None _
    (ends-with Grbound _ _ _ _ (sink.faults err) (sink.written err) None None c.carry_out-end.result _ _ refl refl
    (c.carry_out-end.ensures.leaves _ (untouched sink.tells sink.faults sink.written err)) c.finish.ensures)

pub returns-clause-no_part : goal.returns-clause-no_part
returns-clause-no_part g c =
    let sink = g.E.Sink in
    let err = c.args.err.now in
    no-part Grbound _ _ _ _ (order_of Grbound (map string_bytes c.args.words.now)) c.carry_out-end.result _
    (c.carry_out-end.ensures.leaves _ (untouched sink.tells sink.faults sink.written err)) c.carry_out-end.ensures.unwritten c.finish.ensures
