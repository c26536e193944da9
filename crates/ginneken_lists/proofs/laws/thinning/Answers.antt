use Rattle.ginneken_lists.proofs.FirstKept.{thinned-is}
use Rattle.ginneken_lists.proofs.laws.thinning.Goals as goal

pub returns : goal.returns
returns c = thinned-is
