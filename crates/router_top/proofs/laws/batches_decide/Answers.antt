use Rattle.router_top.proofs.RepeatingLemmas.{batches-decide}
use Rattle.router_top.proofs.laws.batches_decide.Goals as goal

pub returns : goal.returns
returns c = batches-decide
