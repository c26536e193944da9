use Rattle.std.proofs.Common.{◌≡◌, Some, None, slice_get, length, arith, subst}
use Rattle.work_share.proofs.RuleSteps.{takes}
use Rattle.work_share.proofs.HandLemmas.{own-fits}
use Rattle.work_share.specs.HandStore.{seen}
use Rattle.work_share.specs.Views.{HandView}
use Rattle.work_share.proofs.OrderLemmas.{takes-next, none-next}
use Rattle.work_share.proofs.hand.Hand.take_own.Goals as goal

pub pop_as-requires-clause-fifo : goal.pop_as-requires-clause-fifo
pop_as-requires-clause-fifo c =
    let own = c.self.invariant.hand.own in
    let few = c.self.invariant.hand.few in
    λ fifo. takes _ _ (omega (arith, own, few))

pub push_reserved-requires : goal.push_reserved-requires
push_reserved-requires c =
    let keeps = c.self.invariant in
    let fits = own-fits (seen c.self.inside) _ c.in_ok-net.net keeps.hand c.in_ok-net.ensures.rule in
    let room = keeps.room in
    let count = c.self.inside.taken.ok.0 in
    omega (arith, fits, room, count)

pub returns-clause-order : goal.returns-clause-order
returns-clause-order c =
    subst (λ (h : HandView). length h.others ≡ 1 → Some c.in_ok-net.net ≡ slice_get h.own.account.put (length h.taken)) c.self.view_is
    (takes-next (seen c.self.inside) _ c.in_ok-net.net c.self.invariant.hand c.in_ok-net.ensures.rule)

pub returns-in_err-net-clause-order : goal.returns-in_err-net-clause-order
returns-in_err-net-clause-order c =
    rw c.from_residual.ensures
    (subst (λ (h : HandView). length h.others ≡ 1 → None ≡ slice_get h.own.account.put (length h.taken)) c.self.view_is
    (none-next (seen c.self.inside) c.self.invariant.hand c.in_err-net.ensures.rule.1))
