use Rattle.buffer_plan.proofs.AboveLists.{complete-above, real-above, rising-above, few-above, complete-edge, real-edge, few-edge}
use Rattle.buffer_plan.proofs.FewCandidates.{hanging-rising}
use Rattle.buffer_plan.specs.Picked.{sites_of, candidates_at}
use Rattle.buffer_plan.proofs.laws.candidates_above_nodes.Goals as goal

pub returns : goal.returns
returns c = record {
  complete = complete-above;
  real = real-above;
  rising = rising-above;
  few = few-above;
  edge_complete = λ l v loading later inside. complete-edge l v loading inside;
  edge_real = λ l v loading later inside. real-edge l v loading inside;
  edge_rising = λ l v. hanging-rising (sites_of l) v (candidates_at l v);
  edge_few = few-edge;
}
