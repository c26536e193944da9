use Rattle.std.proofs.Common.{ℕ, [], ◌∷◌, sym, subst}
use Rattle.std.proofs.lemmas.Result.{IfOk-weaker}
use Rattle.run_histories.specs.Attempts.{Rests, Claiming}
use Rattle.run_histories.specs.Rounds.{slacks_of_turn}
use Rattle.run_histories.proofs.StageSteps.{kind-made}
use Rattle.ripup_workers.specs.Working.{HasLed, HasAttempted}
use Rattle.ripup_workers.proofs.ForeseenPlans.{foreseen-after}
use Rattle.ripup_workers.proofs.TurningPlans.{answered-begins}
use Rattle.ripup_workers.proofs.TurningStages.{led-then, freed-so, later}
use Rattle.ripup_workers.proofs.ground.Ground.attempt.Goals as goal

pub invariant_of-wish : goal.invariant_of-wish
invariant_of-wish g c = record { routed = c.requires.net; planned = kind-made c.args.round c.kind_of.result c.kind_of.ensures }

pub returns-then-round-eq0 : goal.returns-then-round-eq0
returns-then-round-eq0 g c = λ t over.
    let net = c.args.net in
    let p = c.args.worker.now.pass in
    let q = c.claim_first.new.worker.pass in
    IfOk-weaker c.claim_first.result (λ _. HasLed t 0 Rests Rests (net ∷ []) p q) (λ _. HasAttempted t c.args.round (net ∷ []) p q)
    (λ _ led. subst (λ (round : ℕ). HasAttempted t round (net ∷ []) p q) (sym c.if-round-eq0.true) led)
    (c.claim_first.ensures t over)

pub claim_until_got-requires-clause-foreseen : goal.claim_until_got-requires-clause-foreseen
claim_until_got-requires-clause-foreseen g c κs within =
    let p = c.foresee.new.worker.pass in
    let q = c.release.new.self.pass in
    foreseen-after _ _ c.args.net _ p.seen q.seen _ (answered-begins _ p q _ _ c.in_ok-release.ensures.reply) c.in_ok-foreseen.ensures.foreseen

pub returns : goal.returns
returns g c = λ t over.
    let net = c.args.net in
    let round = c.args.round in
    let o = c.args.worker.now.pass in
    let p = c.foresee.new.worker.pass in
    let q = c.release.new.self.pass in
    let s = c.claim_until_got.new.worker.pass in
    let some = later round c.if-round-eq0.false in
    let before = c.in_ok-foreseen.ensures.led t round over in
    let freed = freed-so t _ _ _ round net c.in_ok-release.field-0 p q over c.requires.capacity some c.in_ok-release.ensures.before c.in_ok-release.ensures.pass c.in_ok-release.ensures.reply in
    IfOk-weaker c.claim_until_got.result (λ _. HasLed t round (Claiming net slacks_of_turn) Rests [] q s) (λ _. HasAttempted t round (net ∷ []) o s)
    (λ _ led. led-then t round Rests Rests Rests [] (net ∷ []) o p s before
    (led-then t round Rests (Claiming net slacks_of_turn) Rests (net ∷ []) [] p q s freed led))
    (c.claim_until_got.ensures t round over some c.kind_of.ensures)
