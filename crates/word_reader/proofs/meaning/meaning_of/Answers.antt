use Rattle.std.proofs.Common.{refl, sym, ◌∙◌}
use Rattle.word_reader.specs.Forms.{option_row, takes_value}
use Rattle.word_reader.proofs.MeaningLemmas.{by-itself}
use Rattle.word_reader.proofs.meaning.meaning_of.Goals as goal

pub returns-in-Some-option_of-2 : goal.returns-in-Some-option_of-2
returns-in-Some-option_of-2 c =
    let option = c.in-Some-option_of-2.option in
    c.by_itself.ensures
    ∙ sym (by-itself c.args.word.now option (sym c.option_of-in-None.ensures ∙ c.in-Some-option_of-2.is) (takes_value (option_row option).takes) refl)
