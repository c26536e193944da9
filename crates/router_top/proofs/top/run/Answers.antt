use Rattle.std.proofs.Common.{ℕ, [], ◌∷◌, map, nat_eq, string_bytes, IsTrue, sym, subst}
use Rattle.std.specs.List.{list_any}
use Rattle.command_form.proofs.EndLemmas.{apart-status, by-status, ends-with}
use Rattle.router_top.proofs.CommandLaws.{asked-lawful}
use Rattle.router_top.proofs.top.run.Goals as goal
use Rattle.word_reader.specs.Orders.{order_of}
use Rattle.word_reader.specs.declared.program.Program.TheVariants.{Groute}

pub returns-clause-by_status : goal.returns-clause-by_status
returns-clause-by_status g c =
    let sinks = g.E.Sink in
    let left = c.carry_out_words-left.result in
    by-status Groute _ (asked-lawful (order_of Groute (map string_bytes c.args.words.now))) _ _ _ _ _
    (ends-with Groute _ _ _ _ (sinks.faults c.carry_out_words-left.new.err) (sinks.written c.carry_out_words-left.new.err) _ _ left.end
    c.of.result.status c.finish-status.result c.of.ensures.kept c.of.ensures.status c.carry_out_words-left.ensures.leaves c.finish-status.ensures)

pub returns-clause-apart : goal.returns-clause-apart
returns-clause-apart g c = λ apart. record {
  shelf = c.carry_out_words-left.ensures.apart apart;
  known =
      subst (λ (status : ℕ). IsTrue (list_any (nat_eq status) (0 ∷ 7 ∷ 8 ∷ []))) (sym c.of.ensures.status)
      (apart-status Groute _ (asked-lawful (order_of Groute (map string_bytes c.args.words.now))) apart _ _ _ _ c.carry_out_words-left.result.end _ c.finish-status.result
      c.carry_out_words-left.ensures.leaves c.finish-status.ensures);
}
