use Rattle.std.proofs.Common.{◌≡◌, ◌≤◌, take, count_by}
use Rattle.route_evaluator.specs.EdgeNumbers.{is_via_number}
use Rattle.route_evaluator.proofs.net_count.count_vias.Given as goal

abbrev pub invariant-loop-number : goal.invariant-loop-number
invariant-loop-number l = record {
  is : l.vias ≡ count_by is_via_number (take l.number-index l.numbers);
  few : l.vias ≤ l.number-index;
}
