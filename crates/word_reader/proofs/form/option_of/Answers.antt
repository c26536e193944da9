use Rattle.std.proofs.Common.{rules, tests, ◌∙◌}
use Rattle.std.proofs.lemmas.Iterator.{YieldsList-from_slice}
use Rattle.std.proofs.lemmas.Iterator.Consumers.{YieldsList-from_copied}
use Rattle.std.proofs.lemmas.Iterator.Search.{find_from_yields_List}
use Rattle.std.specs.Str.{bytes_eq}
use Rattle.word_reader.specs.Forms.{option_row, every_option}
use Rattle.word_reader.specs.declared.form.OptionKind.{OptionKind}
use Rattle.word_reader.proofs.TableLemmas.{as-found}
use Rattle.word_reader.proofs.form.option_of.Goals as goal

pub returns : goal.returns
returns c =
    as-found c.find.result ∙
    find_from_yields_List (λ (option : OptionKind). bytes_eq c.args.word.now (option_row option).word) _ _ c.find.result c.find.ensures.ran
    (YieldsList-from_copied (YieldsList-from_slice every_option cc)) (λ x b q k. search (rules, tests))
