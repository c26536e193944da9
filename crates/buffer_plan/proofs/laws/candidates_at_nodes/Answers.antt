use Rattle.buffer_plan.proofs.FewCandidates.{rising-at, few-at}
use Rattle.buffer_plan.proofs.NodeLists.{complete-at, real-at}
use Rattle.buffer_plan.proofs.laws.candidates_at_nodes.Goals as goal

pub returns : goal.returns
returns c = record { complete = complete-at; real = real-at; rising = rising-at; few = few-at }
