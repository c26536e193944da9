use Rattle.std.proofs.Common.{ℕ, ◌<◌, ◌+◌, subst, sym, ap, ◌∙◌, arith}
use Rattle.work_share.specs.HandSteps.{IsDoneFrom}
use Rattle.work_share.specs.Views.{ShareView, HandView}
use Rattle.work_share.proofs.OrderLemmas.{put-one}
use Rattle.work_share.proofs.TakeLemmas.{own-among, done-all, none-of, if-none}
use Rattle.work_share.proofs.shared.Share.take.Goals as goal

pub returns-in-Some-clause-among : goal.returns-in-Some-clause-among
returns-in-Some-clause-among c =
    let takes = c.in-Some.ensures.taken in
    own-among c.args.self.now c.args.hand.now takes.account c.in-Some.net c.requires takes.took

pub returns-in-Some-clause-order : goal.returns-in-Some-clause-order
returns-in-Some-clause-order c = λ one.
    sym c.in-Some.is ∙ put-one c.args.self.now c.args.hand.now c.take_own.result c.requires one (c.take_own.ensures.order (c.requires.count ∙ one))

pub returns-clause-order : goal.returns-clause-order
returns-clause-order c = λ one.
    let number = c.number-own.ensures ∙ ap (λ (h : HandView). h.number) c.in_default.ensures.kept in
    let first = c.requires.number in
    let none = none-of c.take_from-2.result (0 < c.number-own.result) c.take_from-2.ensures.some (λ less. absurd (omega (arith, number, first, one, less))) in
    none ∙ sym c.in_default.is
    ∙ put-one c.args.self.now c.args.hand.now c.take_own.result c.requires one (c.take_own.ensures.order (c.requires.count ∙ one))

pub returns-clause-none : goal.returns-clause-none
returns-clause-none c =
    let kept = c.in_default.ensures.kept in
    let number = c.number-own.ensures ∙ ap (λ (h : HandView). h.number) kept in
    let workers = c.len.ensures ∙ c.self.inside.thieves.ok.0 ∙ ap (λ (s : ShareView). s.workers) c.self.view_is in
    let above = subst (λ (x : ℕ × HandView). IsDoneFrom (x.0 + 1) c.len.result c.args.self.now x.1 c.take_from.new.hand) (λ i. (number i, kept i)) c.in_default-take_from.ensures.none in
    if-none c.take_from-2.result _ _
    (λ (below : IsDoneFrom 0 c.number-own.result c.args.self.now c.take_from.new.hand c.take_from-2.new.hand).
    done-all c.args.self.now c.args.hand.now c.take_from.new.hand c.take_from-2.new.hand c.len.result c.requires workers c.in_default.ensures.none above
    (subst (λ (n : ℕ). IsDoneFrom 0 n c.args.self.now c.take_from.new.hand c.take_from-2.new.hand) number below))
    c.take_from-2.ensures.none
