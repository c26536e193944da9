use Rattle.std.proofs.Common.{sym, ◌∙◌}
use Rattle.word_reader.proofs.WordNumbers.{too-long, no-digits, word-number}
use Rattle.word_reader.proofs.numbers.number_of_word.Goals as goal

pub returns-then-word-gt-MOST_DIGITS : goal.returns-then-word-gt-MOST_DIGITS
returns-then-word-gt-MOST_DIGITS c = too-long c.args.word.now c.if-word-gt-MOST_DIGITS.true

pub returns-then-not-are_digits : goal.returns-then-not-are_digits
returns-then-not-are_digits c = no-digits c.args.word.now (sym c.are_digits.ensures ∙ c.if-not-are_digits.true)

pub returns : goal.returns
returns c =
    c.ok.ensures.value
    ∙ word-number c.args.word.now c.if-word-gt-MOST_DIGITS.false (sym c.are_digits.ensures ∙ c.if-not-are_digits.false) c.parse.result c.parse.ensures.value.0
