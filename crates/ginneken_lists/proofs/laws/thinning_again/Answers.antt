use Rattle.ginneken_lists.proofs.ThinnedAgain.{thinned-stays, joined-leaf}
use Rattle.ginneken_lists.proofs.laws.thinning_again.Goals as goal

pub returns : goal.returns
returns c = record { thinned = thinned-stays; joined = joined-leaf }
