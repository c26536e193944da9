use Rattle.std.proofs.Common.{[], ◌∷◌, Option, Some, None, IfSome, subst}
use Rattle.gr_base.specs.Trees.{TreeView}
use Rattle.book_state.specs.declared.entry.PlanKind.{PlanKind}
use Rattle.run_histories.specs.Attempts.{Rests, Claiming}
use Rattle.run_histories.specs.Rounds.{slacks_of_turn, IsPlanFor}
use Rattle.ripup_workers.specs.Turning.{HasTried, HasLedOn}
use Rattle.ripup_workers.proofs.TurningPlans.{planned-now}
use Rattle.ripup_workers.proofs.TurningStages.{led-then, followed-led, got-led, last-got}
use Rattle.ripup_workers.proofs.ground.Ground.claim_until_got.Goals as goal

pub returns-in_default : goal.returns-in_default
returns-in_default g c = λ t round over later kind.
    let net = c.args.wish.now.net in
    let p = c.args.worker.now.pass in
    let q = c.search_freed.new.worker.pass in
    let s = c.claim_within.new.worker.pass in
    led-then t round (Claiming net slacks_of_turn) (Claiming net slacks_of_turn) Rests [] [] p q s
    (followed-led t round (Claiming net slacks_of_turn) p q (c.in_ok-tree.ensures.learnt t over))
    (subst (λ (o : Option TreeView). HasLedOn t round net (Some 0 ∷ None ∷ []) q s o) c.in_default.is
    (c.in_ok-tree-2.ensures.led t round (Some 0 ∷ None ∷ []) over later kind))

pub returns-in_default-2 : goal.returns-in_default-2
returns-in_default-2 g c = λ t round over later kind.
    let net = c.args.wish.now.net in
    let p = c.args.worker.now.pass in
    let q = c.search_freed.new.worker.pass in
    let s = c.claim_within.new.worker.pass in
    let u = c.claim_within-2.new.worker.pass in
    led-then t round (Claiming net slacks_of_turn) (Claiming net slacks_of_turn) Rests [] [] p q u
    (followed-led t round (Claiming net slacks_of_turn) p q (c.in_ok-tree.ensures.learnt t over))
    (led-then t round (Claiming net slacks_of_turn) (Claiming net (Some 0 ∷ None ∷ [])) Rests [] [] q s u
    (subst (λ (o : Option TreeView). HasLedOn t round net (Some 0 ∷ None ∷ []) q s o) c.in-Some.is
    (c.in_ok-tree-2.ensures.led t round (Some 0 ∷ None ∷ []) over later kind))
    (subst (λ (o : Option TreeView). HasLedOn t round net (None ∷ []) s u o) c.in_default-2.is
    (c.in_ok-tree-3.ensures.led t round (None ∷ []) over later kind)))

pub returns : goal.returns
returns g c = λ t round over later kind.
    let net = c.args.wish.now.net in
    let p = c.args.worker.now.pass in
    let q = c.search_freed.new.worker.pass in
    let s = c.claim_within.new.worker.pass in
    let u = c.claim_within-2.new.worker.pass in
    let w = c.search_again.new.worker.pass in
    let v = c.claim.new.worker.pass in
    let tried = c.in_ok-claim.ensures t over in
    led-then t round (Claiming net slacks_of_turn) (Claiming net slacks_of_turn) Rests [] [] p q v
    (followed-led t round (Claiming net slacks_of_turn) p q (c.in_ok-tree.ensures.learnt t over))
    (led-then t round (Claiming net slacks_of_turn) (Claiming net (Some 0 ∷ None ∷ [])) Rests [] [] q s v
    (subst (λ (o : Option TreeView). HasLedOn t round net (Some 0 ∷ None ∷ []) q s o) c.in-Some.is
    (c.in_ok-tree-2.ensures.led t round (Some 0 ∷ None ∷ []) over later kind))
    (led-then t round (Claiming net (Some 0 ∷ None ∷ [])) (Claiming net (None ∷ [])) Rests [] [] s u v
    (subst (λ (o : Option TreeView). HasLedOn t round net (None ∷ []) s u o) c.in-Some-2.is
    (c.in_ok-tree-3.ensures.led t round (None ∷ []) over later kind))
    (led-then t round (Claiming net (None ∷ [])) (Claiming net (None ∷ [])) Rests [] [] u w v
    (followed-led t round (Claiming net (None ∷ [])) u w (c.in_ok-tree-4.ensures.learnt t over))
    (got-led t round net None [] c.in_ok-claim.field-0 w v later
    (subst (λ (k : PlanKind). HasTried t net k None c.in_ok-claim.field-0 w v) kind tried)
    (last-got t net c.args.wish.now.kind c.in_ok-claim.field-0 w v tried)))))

pub search_again-requires-clause-planned : goal.search_again-requires-clause-planned
search_again-requires-clause-planned g c κs within =
    let seen = c.claim_within-2.new.worker.pass.seen in
    let plan = subst (λ (o : Option TreeView). IfSome o (IsPlanFor c.args.wish.now.design.now c.args.wish.now.rule.now.formula seen c.args.wish.now.net c.args.wish.now.kind))
    c.in-Some-2.is c.in_ok-tree-3.ensures.plan in
    planned-now c.args.wish.now.design.now c.args.wish.now.rule.now.formula c.args.wish.now.net c.args.wish.now.kind c.in-Some-2.tree c.known-front.result seen plan c.known-front.ensures.known
