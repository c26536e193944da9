use Rattle.std.proofs.Common.{[], ◌∷◌, false, Some, refl, sym, subst, ◌∙◌}
use Rattle.std.proofs.lemmas.Bool.{both_ways}
use Rattle.book_state.specs.declared.entry.PlanKind.{PlanKind}
use Rattle.run_histories.specs.Attempts.{Claiming}
use Rattle.ripup_workers.specs.Turning.{HasTried}
use Rattle.ripup_workers.proofs.TurningStages.{led-then, followed-led, got-led, full-led}
use Rattle.ripup_workers.proofs.TurningPlans.{was-planned}
use Rattle.ripup_workers.proofs.ground.Ground.claim_within.Goals as goal

pub returns-then-not-is_full-clause-led : goal.returns-then-not-is_full-clause-led
returns-then-not-is_full-clause-led g c = λ t round slacks over later kind.
    let net = c.args.wish.now.net in
    let p = c.args.worker.now.pass in
    let q = c.claim.new.worker.pass in
    got-led t round net (Some 0) slacks c.in_ok-reply.reply p q later
    (subst (λ (k : PlanKind). HasTried t net k (Some 0) c.in_ok-reply.reply p q) kind (c.in_ok-reply.ensures t over))
    (λ full. both_ways false refl (c.if-not-is_full.ensures ∙ full))

pub returns-clause-led : goal.returns-clause-led
returns-clause-led g c = λ t round slacks over later kind.
    let net = c.args.wish.now.net in
    let p = c.args.worker.now.pass in
    let q = c.claim.new.worker.pass in
    let s = c.search_again.new.worker.pass in
    led-then t round (Claiming net (Some 0 ∷ slacks)) (Claiming net slacks) (Claiming net slacks) [] [] p q s
    (full-led t round net (Some 0) slacks c.in_ok-reply.reply p q later
    (subst (λ (k : PlanKind). HasTried t net k (Some 0) c.in_ok-reply.reply p q) kind (c.in_ok-reply.ensures t over))
    (sym c.if-not-is_full.ensures))
    (followed-led t round (Claiming net slacks) q s (c.in_ok-next.ensures.learnt t over))

pub search_again-requires-clause-planned : goal.search_again-requires-clause-planned
search_again-requires-clause-planned g c κs within =
    was-planned c.args.wish.now.design.now c.args.wish.now.rule.now.formula c.args.wish.now.net c.args.wish.now.kind (Some 0) c.args.tree c.in_ok-same.same c.known-front.result c.in_ok-reply.reply
    c.args.worker.now.pass c.claim.new.worker.pass c.in_ok-same.ensures.same c.known-front.ensures.known c.requires.plan c.in_ok-reply.ensures
