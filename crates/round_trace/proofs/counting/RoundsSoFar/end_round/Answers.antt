use Rattle.std.proofs.Common.{◌+◌, refl}
use Rattle.round_trace.proofs.TraceLemmas.{count-mark}
use Rattle.round_trace.proofs.counting.RoundsSoFar.end_round.Goals as goal

pub returns : goal.returns
returns c = λ before e mark is of.
    let old = c.args.self.now in
    count-mark old (record { lines = c.put_ended.new.lines; marks = old.marks + 1; nets = 0; full = 0 }) before e c.args.reply mark is
    c.in_ok-put_ended.ensures refl refl refl of
