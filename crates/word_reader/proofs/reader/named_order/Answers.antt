use Rattle.std.proofs.Common.{ℕ, List, ◌∷◌, map, string_bytes, sym, ap, ◌∙◌}
use Rattle.word_reader.proofs.OrderLemmas.{order-of}
use Rattle.word_reader.proofs.reader.named_order.Goals as goal

pub returns-clause-order : goal.returns-clause-order
returns-clause-order c =
    c.order_with.ensures.order ∙
    order-of (map string_bytes c.args.words.now) c.deref.result.now (map string_bytes c.in_ok-first.rest.now) c.in_ok-command.command
    (ap (map string_bytes) c.in_ok-first.ensures.cases.0 ∙ ap (λ (word : List ℕ). word ∷ map string_bytes c.in_ok-first.rest.now) (sym c.deref.ensures)) c.in_ok-command.ensures
