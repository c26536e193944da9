use Rattle.std.proofs.Common.{◌≡◌, ℕ, length, subst, ap, ◌∙◌, arith}
use Rattle.crossbeam_deque.specs.Handles.{stealer_deque}
use Rattle.work_share.specs.HandSteps.{FindsNone}
use Rattle.work_share.specs.Views.{ShareView, HandView}
use Rattle.work_share.proofs.TakeLemmas.{more-from, deque-there, done-to, done-first, done-more}
use Rattle.work_share.proofs.shared.Share.take_from.Goals as goal

pub loop-place-init : goal.loop-place-init
loop-place-init c = done-first c.args.self.now c.args.hand.now c.args.from

pub steal-requires-clause-place : goal.steal-requires-clause-place
steal-requires-clause-place c =
    let same = ap (λ (h : HandView). length h.others) c.loop-place.invariant.new_is in
    let count = c.requires.hand.count in
    let to = c.requires.to in
    let less = c.loop-place-test.true in
    omega (arith, same, count, to, less)

pub steal-requires-clause-other : goal.steal-requires-clause-other
steal-requires-clause-other c = λ is.
    c.requires.other c.loop-place.place c.loop-place.auto.place c.loop-place-test.true
    (is ∙ ap (λ (h : HandView). h.number) c.loop-place.invariant.new_is)

pub steal-requires-clause-deque : goal.steal-requires-clause-deque
steal-requires-clause-deque c = λ k there.
    let names = ap (λ (s : ShareView). s.deques) c.self.view_is in
    let count = ap (λ (s : ShareView). s.workers) c.self.view_is in
    let to = c.requires.to in
    let less = c.loop-place-test.true in
    deque-there stealer_deque c.args.self.now c.args.hand.now c.loop-place.hand c.args.from c.loop-place.place k c.self.inside.thieves.items c.index.result.now
    c.requires.hand c.loop-place.invariant names (omega (arith, count, to, less)) c.index.ensures there

pub returns-in-Some-clause-taken : goal.returns-in-Some-clause-taken
returns-in-Some-clause-taken c = more-from _ _ _ _ _ _ _ c.requires.hand c.loop-place.invariant c.in-Some.ensures.taken

pub loop-place-preserved : goal.loop-place-preserved
loop-place-preserved c =
    let nets : length c.self.inside.nets.items ≡ length c.args.self.now.nets = ap (λ (s : ShareView). length s.nets) c.self.view_is in
    let tries : c.len.result ≡ length c.args.self.now.nets = c.len.ensures ∙ c.self.inside.nets.ok.0 ∙ nets in
    let found = subst (λ (n : ℕ). FindsNone c.loop-place.place n c.loop-place.hand c.steal.new.self) tries c.in_default.ensures.none in
    done-more c.args.self.now c.args.hand.now c.loop-place.hand c.steal.new.self c.args.from c.loop-place.place c.loop-place.auto.place c.loop-place.invariant found

pub returns-clause-none : goal.returns-clause-none
returns-clause-none c =
    let past = c.loop-place-test.false in
    let end = c.loop-place.auto.place-end c.requires.order in
    done-to c.args.self.now c.args.hand.now c.loop-place.hand c.args.from c.loop-place.place c.args.to (omega (arith, past, end)) c.loop-place.invariant
