use Rattle.std.proofs.Common.{sym, ap, ◌∙◌, map, List, ◌∷◌, [], ◌++◌, ℕ, arith}
use Rattle.std.proofs.lemmas.List.FromFn.{map-range_with_len_more}
use Rattle.std.specs.List.{range_with_len}
use Rattle.run_histories.specs.Hands.{empty_log}
use Rattle.run_histories.specs.declared.hands.HandLog.{HandLog}
use Rattle.run_histories.proofs.hands.no_logs.Goals as goal

pub loop-number-preserved : goal.loop-number-preserved
loop-number-preserved c =
    c.in_ok-push.ensures.items
    ∙ ap (λ (hands : List HandLog). hands ++ record { number = c.loop-number.number; places = c.new.result } ∷ []) c.loop-number.invariant
    ∙ ap (λ (places : List ℕ). map empty_log (range_with_len 0 c.loop-number.number) ++ record { number = c.loop-number.number; places = places } ∷ []) c.new.ensures
    ∙ sym (map-range_with_len_more empty_log 0 c.loop-number.number c.loop-number.number (omega arith))

pub returns : goal.returns
returns c =
    c.loop-number.invariant ∙ ap (λ (n : ℕ). map empty_log (range_with_len 0 n)) (omega (arith, c.loop-number-test.false, c.loop-number.auto.number-end))
