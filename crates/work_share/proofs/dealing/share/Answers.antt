use Rattle.std.proofs.Common.{ℕ, sym, ap, ◌∙◌}
use Rattle.crossbeam_deque.specs.Handles.{stealer_deque}
use Rattle.work_share.specs.Dealt.{deals}
use Rattle.work_share.proofs.HandMaking.{dealt-all}
use Rattle.work_share.proofs.RowLemmas.{length-stocks, same-puts}
use Rattle.work_share.proofs.dealing.share.Goals as goal

pub hands-requires-clause-put : goal.hands-requires-clause-put
hands-requires-clause-put c =
    let dealt = c.deal.new.owners.items in
    let owners = c.rows.new.owners.items in
    let same = c.in_ok-rows.ensures.same in
    let d = c.in_ok-deal.ensures in
    same-puts dealt owners same ∙ d.put ∙ ap (λ (n : ℕ). deals n c.args.nets.now) (sym d.count ∙ sym (length-stocks dealt owners same))

pub returns : goal.returns
returns c =
    dealt-all stealer_deque c.args.nets.now c.in_ok-nets.nets.items c.args.workers c.in_ok-thieves.thieves.items c.deal.new.owners.items c.rows.new.owners.items c.in_ok-hands.hands.items
    c.in_ok-nets.ensures.items (c.in_ok-deal.ensures.count ∙ c.in_ok-owners.ensures.count) c.in_ok-thieves.ensures.deques c.in_ok-rows.ensures.same c.in_ok-hands.ensures
