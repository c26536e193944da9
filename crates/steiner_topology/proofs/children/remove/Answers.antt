use Rattle.std.proofs.Common.{rules}
use Rattle.steiner_topology.proofs.ChildLemmas.{retained}
use Rattle.steiner_topology.proofs.children.remove.Goals as goal

pub returns : goal.returns
returns c = retained _ _ _ (λ x b f' y called. search rules) _ _ c.retain.ensures.filtered
