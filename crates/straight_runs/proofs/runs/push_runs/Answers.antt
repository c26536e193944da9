use Rattle.std.proofs.Common.{ℕ, ◌-◌, List, ◌++◌, ◌∷◌, [], get_or, take, Bool, not, nat_le, ◌&&◌, sym, ap, ◌∙◌, append_assoc}
use Rattle.std.proofs.lemmas.List.{take_all}
use Rattle.solution_text.specs.declared.run.Run.{Run}
use Rattle.straight_runs.specs.Lows.{is_low}
use Rattle.straight_runs.proofs.ListLemmas.{low-inside, runs_at, runs-skip, runs-more, runs-all}
use Rattle.straight_runs.proofs.runs.push_runs.Goals as goal

pub loop-low-preserved-then-not-is_first : goal.loop-low-preserved-then-not-is_first
loop-low-preserved-then-not-is_first c =
    let low = get_or c.args.lows.now c.loop-low.low-index 0 in
    let test : ℕ → Bool = λ n. not (nat_le n low && is_low c.args.lows.now (low - n)) in
    c.loop-low.invariant
    ∙ ap (λ (rs : List Run). c.args.runs.now.items ++ rs)
    (sym (runs-skip c.args.shape c.args.way c.args.lows.now c.requires c.loop-low.low-index c.loop-low-test.true
    (sym (ap test c.stride-stride.ensures) ∙ sym c.is_first.ensures ∙ c.if-not-is_first.true)))

pub end_of_run-to-requires-clause-low : goal.end_of_run-to-requires-clause-low
end_of_run-to-requires-clause-low c = low-inside c.args.shape c.args.way c.args.lows.now c.requires c.loop-low.low-index c.loop-low-test.true

pub loop-low-preserved : goal.loop-low-preserved
loop-low-preserved c =
    let low = get_or c.args.lows.now c.loop-low.low-index 0 in
    let test : ℕ → Bool = λ n. not (nat_le n low && is_low c.args.lows.now (low - n)) in
    let one : List Run = record { from = low; to = c.end_of_run-to.result } ∷ [] in
    let before = runs_at c.args.shape c.args.way c.args.lows.now c.requires (take c.loop-low.low-index c.args.lows.now) in
    c.in_ok-push.ensures.items
    ∙ ap (λ (rs : List Run). rs ++ one) c.loop-low.invariant
    ∙ append_assoc c.args.runs.now.items before one
    ∙ ap (λ (rs : List Run). c.args.runs.now.items ++ rs)
    (sym (runs-more c.args.shape c.args.way c.args.lows.now c.requires c.loop-low.low-index c.end_of_run-to.result c.loop-low-test.true
    (sym (ap test c.stride-stride.ensures) ∙ sym c.is_first.ensures ∙ c.if-not-is_first.false) c.end_of_run-to.ensures.end))

pub returns : goal.returns
returns c =
    c.loop-low.invariant
    ∙ ap (λ (cells : List ℕ). c.args.runs.now.items ++ runs_at c.args.shape c.args.way c.args.lows.now c.requires cells)
    (take_all c.loop-low.low-index c.args.lows.now c.loop-low-test.false)
    ∙ ap (λ (rs : List Run). c.args.runs.now.items ++ rs) (runs-all c.args.shape c.args.way c.args.lows.now c.requires)
