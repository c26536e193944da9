use Rattle.price_laws.proofs.PriceLemmas.{price-law}
use Rattle.price_laws.proofs.law.prices_bound_routes.Goals as goal

pub returns : goal.returns
returns c = price-law
