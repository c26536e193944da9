use Rattle.kept_routes.specs.Cuts.{MarksAbove}
use Rattle.kept_routes.proofs.wanted.mark_above.Given as goal

abbrev pub invariant-loop-node : goal.invariant-loop-node
invariant-loop-node l = MarksAbove l.tree l.node l.fn.wanted.items l.wanted.items
