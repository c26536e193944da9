use Rattle.std.proofs.Common.{◌≡◌, drop, map, string_bytes}
use Rattle.std.specs.Option.{option_and_then}
use Rattle.word_reader.specs.Kept.{order_after}
use Rattle.word_reader.specs.Orders.{order_by}
use Rattle.word_reader.specs.Sorting.{sorted}
use Rattle.word_reader.specs.declared.form.Command.{Command}
use Rattle.word_reader.specs.declared.sorted.Next.TheVariants.{Any}
use Rattle.word_reader.proofs.sorted.sort_words.Given as goal

abbrev pub invariant-loop-word : goal.invariant-loop-word
invariant-loop-word l = (command : Command) →
    order_after command l.sorted l.next (map string_bytes (drop l.word-index l.words)) ≡
    option_and_then (order_by command) (sorted Any (map string_bytes l.words))
