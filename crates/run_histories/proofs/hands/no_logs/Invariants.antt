use Rattle.std.proofs.Common.{◌≡◌, map}
use Rattle.std.specs.List.{range_with_len}
use Rattle.run_histories.specs.Hands.{empty_log}
use Rattle.run_histories.proofs.hands.no_logs.Given as goal

abbrev pub invariant-loop-number : goal.invariant-loop-number
invariant-loop-number l = l.hands.items ≡ map empty_log (range_with_len 0 l.number)
