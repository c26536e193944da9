use Rattle.net_prices.specs.Arcs.{AreLower}
use Rattle.net_prices.proofs.net_pricer.restore.Given as goal

abbrev pub invariant-loop-cell : goal.invariant-loop-cell
invariant-loop-cell l = AreLower l.table l.left.items
