use Rattle.price_laws.proofs.PayLemmas.{paid-law}
use Rattle.price_laws.proofs.law.what_is_paid_is_a_bound.Goals as goal

pub returns : goal.returns
returns c = paid-law
