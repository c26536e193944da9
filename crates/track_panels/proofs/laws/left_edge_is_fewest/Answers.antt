use Rattle.track_panels.proofs.LawLemmas.{left-edge-fewest}
use Rattle.track_panels.proofs.laws.left_edge_is_fewest.Goals as goal

pub returns : goal.returns
returns c = λ pieces order. left-edge-fewest pieces order
