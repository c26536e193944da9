use Rattle.std.proofs.Common.{[], ◌∷◌, None, subst}
use Rattle.book_state.specs.declared.entry.PlanKind.{PlanKind}
use Rattle.run_histories.specs.Attempts.{Rests}
use Rattle.track_book.specs.Passes.{PassView}
use Rattle.ripup_workers.specs.Turning.{HasTried}
use Rattle.ripup_workers.proofs.TurningStages.{led-then, followed-led, first-led}
use Rattle.ripup_workers.proofs.ground.Ground.claim_first.Goals as goal

pub returns : goal.returns
returns g c = λ t over.
    let net = c.args.wish.now.net in
    let p = c.args.worker.now.pass in
    let q = c.search.new.worker.pass in
    let s = c.claim.new.worker.pass in
    led-then t 0 Rests Rests Rests [] (net ∷ []) p q s
    (followed-led t 0 Rests p q (c.in_ok-tree.ensures.learnt t over))
    (first-led t net c.in_ok-claim.field-0 q s
    (subst (λ (kind : PlanKind). HasTried t net kind None c.in_ok-claim.field-0 q s) c.requires.kind
    (subst (λ (pass : PassView). HasTried t net c.args.wish.now.kind None c.in_ok-claim.field-0 pass s) c.holds_whole.ensures.pass (c.in_ok-claim.ensures t over))))
