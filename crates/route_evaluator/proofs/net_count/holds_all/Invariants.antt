use Rattle.std.proofs.Common.{◌≡◌, true, take}
use Rattle.std.specs.List.{list_all}
use Rattle.gr_base.specs.Trees.{holds}
use Rattle.route_evaluator.proofs.net_count.holds_all.Given as goal

abbrev pub invariant-loop-cell : goal.invariant-loop-cell
invariant-loop-cell l = list_all (holds l.tree) (take l.cell-index l.cells) ≡ true
