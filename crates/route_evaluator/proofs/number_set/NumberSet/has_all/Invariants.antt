use Rattle.std.proofs.Common.{◌≡◌, true, take}
use Rattle.std.specs.List.{list_all}
use Rattle.route_evaluator.specs.NumberSets.{has_number}
use Rattle.route_evaluator.proofs.number_set.NumberSet.has_all.Given as goal

abbrev pub invariant-loop-number : goal.invariant-loop-number
invariant-loop-number l = list_all (has_number l.self.numbers) (take l.number-index l.numbers) ≡ true
