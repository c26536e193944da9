use Rattle.batch_rounds.proofs.OnlyHistories.{batched-only}
use Rattle.batch_rounds.proofs.laws.there_is_one_batched_history.Goals as goal

pub returns : goal.returns
returns c = λ t h g design one two. batched-only t h g design one two
