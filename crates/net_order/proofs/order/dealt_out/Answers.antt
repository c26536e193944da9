use Rattle.std.proofs.Common.{◌≡◌, ℕ, subst, arith}
use Rattle.net_order.proofs.DealingLemmas.{AreDealt, dealt-none, dealt-more, dealt-last, each-has}
use Rattle.net_order.proofs.order.dealt_out.Goals as goal

pub loop-at-init : goal.loop-at-init
loop-at-init c = dealt-none _ _ c.new-order.ensures.items

pub loop-at-preserved : goal.loop-at-preserved
loop-at-preserved c =
    dealt-more c.loop-at.at c.args.regions.now c.loop-at.order.items _ c.loop-at.invariant
    (each-has c.args.each c.args.more c.loop-at.at c.args.regions.now c.requires.cut c.loop-at-test.true) c.in_ok-push_each.ensures

pub returns : goal.returns
returns c =
    let some = c.requires.some in
    let past = c.loop-at-test.false in
    let end = c.loop-at.auto.at-end in
    let at_end : c.loop-at.at ≡ c.args.each = omega (arith, past, end) in
    dealt-last c.args.each c.args.more c.args.regions.now c.loop-at.order.items c.push_each-2.new.order.items
    (subst (λ (n : ℕ). AreDealt n c.args.regions.now c.loop-at.order.items) at_end c.loop-at.invariant) c.requires.cut (omega (arith, some)) c.in_ok-push_each-2.ensures
