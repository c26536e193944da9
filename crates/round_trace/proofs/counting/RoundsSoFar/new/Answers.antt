use Rattle.std.proofs.Common.{refl}
use Rattle.round_trace.proofs.TraceLemmas.{count-none}
use Rattle.round_trace.proofs.counting.RoundsSoFar.new.Goals as goal

pub returns : goal.returns
returns c = count-none (record { lines = c.new.result; marks = 0; nets = 0; full = 0 }) c.new.ensures refl refl refl
