use Rattle.wall_laws.proofs.LengthLemmas.{wirelength-law}
use Rattle.wall_laws.proofs.law.wirelength_is_at_least.Goals as goal

pub returns : goal.returns
returns c = wirelength-law
