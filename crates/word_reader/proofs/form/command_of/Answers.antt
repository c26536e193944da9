use Rattle.std.proofs.Common.{rules, tests, ◌∙◌}
use Rattle.std.proofs.lemmas.Iterator.{YieldsList-from_slice}
use Rattle.std.proofs.lemmas.Iterator.Consumers.{YieldsList-from_copied}
use Rattle.std.proofs.lemmas.Iterator.Search.{find_from_yields_List}
use Rattle.std.specs.Str.{bytes_eq}
use Rattle.word_reader.specs.Forms.{command_row, every_command}
use Rattle.word_reader.specs.declared.form.Command.{Command}
use Rattle.word_reader.proofs.TableLemmas.{as-found}
use Rattle.word_reader.proofs.form.command_of.Goals as goal

pub returns : goal.returns
returns c =
    as-found c.find.result ∙
    find_from_yields_List (λ (command : Command). bytes_eq c.args.word.now (command_row command).word) _ _ c.find.result c.find.ensures.ran
    (YieldsList-from_copied (YieldsList-from_slice every_command cc)) (λ x b q k. search (rules, tests))
