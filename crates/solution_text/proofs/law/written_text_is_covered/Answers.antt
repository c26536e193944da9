use Rattle.solution_text.proofs.LawLemmas.{written-text-covers}
use Rattle.solution_text.proofs.law.written_text_is_covered.Goals as goal

pub returns : goal.returns
returns c = written-text-covers
