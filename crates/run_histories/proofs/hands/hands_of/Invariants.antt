use Rattle.std.proofs.Common.{◌≡◌, map}
use Rattle.std.specs.List.{range_with_len}
use Rattle.run_histories.proofs.HandLemmas.{log_upto}
use Rattle.run_histories.proofs.hands.hands_of.Given as goal

abbrev pub invariant-loop-place : goal.invariant-loop-place
invariant-loop-place l = l.hands.items ≡ map (log_upto l.history l.place) (range_with_len 0 l.callers)
