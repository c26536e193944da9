use Rattle.std.proofs.Common.{refl}
use Rattle.maze_route.proofs.HeadLemmas.{none-marked}
use Rattle.maze_route.proofs.heads.Heads.new.Goals as goal

pub invariant_of-result : goal.invariant_of-result
invariant_of-result c = none-marked _ _ refl refl
