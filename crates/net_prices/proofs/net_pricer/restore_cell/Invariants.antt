use Rattle.net_prices.specs.Arcs.{AreLower}
use Rattle.net_prices.proofs.net_pricer.restore_cell.Given as goal

abbrev pub invariant-loop-arc : goal.invariant-loop-arc
invariant-loop-arc l = AreLower l.table l.left.items
