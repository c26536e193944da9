-- The order of words whose first one names a command.
use Rattle.std.proofs.Common.{◌≡◌, ℕ, List, ◌∷◌, Some, sym, ap, ◌∙◌}
use Rattle.std.specs.Option.{option_and_then}
use Rattle.word_reader.specs.Forms.{command_of}
use Rattle.word_reader.specs.Orders.{named_order, order_with}
use Rattle.word_reader.specs.declared.form.Command.{Command}

pub order-of : (words : List (List ℕ)) (first : List ℕ) (rest : List (List ℕ)) (command : Command) → words ≡ first ∷ rest → Some command ≡ command_of first →
    order_with command rest ≡ named_order words
unfolding named_order
order-of words first rest command is names =
    ap (option_and_then (λ (c : Command). order_with c rest)) names ∙ ap named_order (sym is)
