use Rattle.std.proofs.Common.{ℕ, ◌+◌, Bool, cond, refl, ap, ◌∙◌}
use Rattle.round_trace.proofs.TraceLemmas.{count-other}
use Rattle.round_trace.proofs.counting.RoundsSoFar.count.Goals as goal

pub returns : goal.returns
returns c = λ before e other is of.
    let old = c.args.self.now in
    count-other old (record { lines = old.lines; marks = old.marks; nets = old.nets + c.one_if.result; full = old.full + c.one_if-2.result }) before e c.args.reply other is
    refl refl (ap (λ (n : ℕ). old.nets + n) (c.one_if.ensures ∙ ap (λ (b : Bool). cond {A = ℕ} b 1 0) c.is_claimed.ensures))
    (ap (λ (n : ℕ). old.full + n) (c.one_if-2.ensures ∙ ap (λ (b : Bool). cond {A = ℕ} b 1 0) c.is_full.ensures)) of
