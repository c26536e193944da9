use Rattle.net_plan.proofs.WindowLemmas.{IsBoxOf}
use Rattle.net_plan.proofs.window.box_of.Given as goal

abbrev pub invariant-loop-cell : goal.invariant-loop-cell
invariant-loop-cell l = IsBoxOf l.shape l.cells l.cell-index l.held
