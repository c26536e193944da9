use Rattle.buffer_plan.proofs.BestLemmas.{picked-is_best}
use Rattle.buffer_plan.proofs.laws.picked_is_best.Goals as goal

pub returns : goal.returns
returns c = picked-is_best
