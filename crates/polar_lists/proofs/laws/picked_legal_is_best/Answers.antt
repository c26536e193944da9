use Rattle.polar_lists.proofs.LegalLemmas.{picked-best, none-picked}
use Rattle.polar_lists.proofs.laws.picked_legal_is_best.Goals as goal

pub returns-clause-best : goal.returns-clause-best
returns-clause-best c = λ l p loading is. picked-best l loading p is

pub returns-clause-none : goal.returns-clause-none
returns-clause-none c = λ l loading is. none-picked l loading is
