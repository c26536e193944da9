use Rattle.word_reader.proofs.RuleLemmas.{sorts-by-rule}
use Rattle.word_reader.proofs.laws.words_sort_by_rule.Goals as goal

pub returns : goal.returns
returns c = sorts-by-rule
