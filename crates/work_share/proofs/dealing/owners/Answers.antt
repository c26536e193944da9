use Rattle.std.proofs.Common.{All, List, [], ◌∷◌, length, length-append, ap, subst, sym, ◌∙◌, arith}
use Rattle.std.proofs.lemmas.List.Elements.{All-push}
use Rattle.work_share.specs.HandStore.{Owner}
use Rattle.work_share.specs.Owners.{IsFresh}
use Rattle.work_share.proofs.dealing.owners.Goals as goal

pub loop-preserved : goal.loop-preserved
loop-preserved c =
    let items = c.in_ok-push.ensures.items in
    let owner = c.in_ok-owner.ensures in
    let long = ap (λ (l : List Owner). length l) items ∙ length-append c.loop.owners.items (c.in_ok-owner.field-0 ∷ []) in
    let count = c.loop.invariant.0 in (
      omega (arith, long, count),
      subst (All IsFresh) (sym items) (All-push IsFresh c.loop.owners.items c.in_ok-owner.field-0 c.loop.invariant.1 (owner.fifo, owner.account)),
    )
