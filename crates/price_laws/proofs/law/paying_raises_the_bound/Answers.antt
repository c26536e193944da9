use Rattle.price_laws.proofs.PayLemmas.{unpaid-law, paying-law}
use Rattle.price_laws.proofs.law.paying_raises_the_bound.Goals as goal

pub returns : goal.returns
returns c = record { unpaid = unpaid-law; paying = paying-law }
