use Rattle.wall_laws.proofs.LengthLemmas.{usable-wirelength-law}
use Rattle.wall_laws.proofs.law.usable_wirelength_is_at_least.Goals as goal

pub returns : goal.returns
returns c = usable-wirelength-law
