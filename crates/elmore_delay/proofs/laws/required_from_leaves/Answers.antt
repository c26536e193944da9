use Rattle.elmore_delay.proofs.RequiredFromLeaves.{required-from_leaves}
use Rattle.elmore_delay.proofs.laws.required_from_leaves.Goals as goal

pub returns : goal.returns
returns c = required-from_leaves
