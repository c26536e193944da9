use Rattle.elmore_delay.proofs.SeenFromLeaves.{seen-from_leaves}
use Rattle.elmore_delay.proofs.laws.seen_from_leaves.Goals as goal

pub returns : goal.returns
returns c = seen-from_leaves
