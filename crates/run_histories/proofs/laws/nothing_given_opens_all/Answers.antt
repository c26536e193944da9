use Rattle.std.proofs.Common.{length}
use Rattle.run_histories.proofs.GivenLemmas.{among-nothing, open-nothing}
use Rattle.run_histories.proofs.laws.nothing_given_opens_all.Goals as goal

pub returns-clause-claims : goal.returns-clause-claims
returns-clause-claims c = λ d. among-nothing d (length d.nets)

pub returns-clause-nets : goal.returns-clause-nets
returns-clause-nets c = open-nothing
