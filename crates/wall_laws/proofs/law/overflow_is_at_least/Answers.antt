use Rattle.wall_laws.proofs.OverflowLemmas.{overflow-law}
use Rattle.wall_laws.proofs.law.overflow_is_at_least.Goals as goal

pub returns : goal.returns
returns c = overflow-law
