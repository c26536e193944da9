use Rattle.std.proofs.Common.{◌≡◌, ℕ, ◌+◌, List, ◌∷◌, map, drop, get_or, string_bytes, sym, ap, ◌∙◌}
use Rattle.std.proofs.lemmas.List.{at_drop_all, at_drop_more}
use Rattle.word_reader.specs.Kept.{order_after, order_kept}
use Rattle.word_reader.specs.Sorting.{sorted}
use Rattle.word_reader.specs.declared.sorted.Next.TheVariants.{Any}
use Rattle.word_reader.proofs.SortingLemmas.{behind-nothing, at-end, without-value}
use Rattle.word_reader.proofs.sorted.sort_words.Goals as goal

pub loop-word-init : goal.loop-word-init
loop-word-init c = λ command. behind-nothing command c.new-sorted.result (sorted Any (map string_bytes c.args.words.now)) c.new-sorted.ensures

pub returns-in-Any : goal.returns-in-Any
returns-in-Any c = λ command.
    let l = c.loop-word in
    at-end command l.sorted l.next c.in-Any.is ∙
    sym (at_drop_all (λ xs. order_after command l.sorted l.next (map string_bytes xs)) c.args.words.now l.word-index c.loop-word-test.false) ∙
    l.invariant command

pub returns-in-Value : goal.returns-in-Value
returns-in-Value c = λ command.
    let l = c.loop-word in
    without-value command l.sorted l.next c.in-Value.field-0 c.in-Value.is ∙
    sym (at_drop_all (λ xs. order_after command l.sorted l.next (map string_bytes xs)) c.args.words.now l.word-index c.loop-word-test.false) ∙
    l.invariant command

pub returns-in_err-next : goal.returns-in_err-next
returns-in_err-next c = λ command.
    let l = c.loop-word in
    let words = c.args.words.now in
    let item = c.word-item.result in
    let rest = map string_bytes (drop (l.word-index + 1) words) in
    let is : c.deref.result.now ≡ string_bytes (get_or words l.word-index item) = c.deref.ensures ∙ ap string_bytes c.word-item.is in
    ap (order_kept command) c.from_residual.ensures ∙
    sym (c.in_err-next.ensures command rest) ∙
    ap (λ (word : List ℕ). order_after command l.sorted l.next (word ∷ rest)) is ∙
    sym (at_drop_more (λ xs. order_after command l.sorted l.next (map string_bytes xs)) words l.word-index item c.loop-word-test.true) ∙
    l.invariant command
