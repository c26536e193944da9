use Rattle.kept_routes.proofs.CutLemmas.{IsCutBefore}
use Rattle.kept_routes.proofs.cut.cut_to_marked.Given as goal

abbrev pub invariant-loop-node : goal.invariant-loop-node
invariant-loop-node l = IsCutBefore l.tree l.wanted l.node l.numbers.items l.cut
